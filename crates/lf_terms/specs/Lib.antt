pub mod Below
pub mod Identities
pub mod NamedConstants
pub mod Parts
pub mod Tables
