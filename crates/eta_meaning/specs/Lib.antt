pub mod Below
pub mod LongTerms
pub mod LongValues
