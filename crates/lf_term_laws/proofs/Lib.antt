pub mod Below
pub mod Equality
pub mod Lookups
pub mod SpineSynthesis
pub mod Spines
pub mod Substituted
pub mod Declarations
pub mod Misfits
