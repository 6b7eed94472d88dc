pub mod Additions
pub mod Inclusions
