pub mod Characters
pub mod Identifiers
pub mod Names
pub mod Limits
pub mod Rows
