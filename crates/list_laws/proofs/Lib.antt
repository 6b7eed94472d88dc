pub mod Members
pub mod Places
pub mod Lists
pub mod Options
pub mod Booleans
pub mod Answers
pub mod Writes
