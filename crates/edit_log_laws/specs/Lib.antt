pub mod LogLaws
pub mod Limits
