pub mod Below
pub mod Carrying
pub mod JudgingByRules
pub mod Outputs
