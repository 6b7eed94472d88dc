pub mod Below
pub mod ReadingEquations
pub mod Raised
pub mod SpineSameness
