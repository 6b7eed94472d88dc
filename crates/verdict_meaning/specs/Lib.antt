pub mod Below
pub mod Inclusions
pub mod Modules
pub mod Verdicts
pub mod Rounds
