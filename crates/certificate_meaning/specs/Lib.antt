pub mod Statements
pub mod Steps
pub mod Certificates
pub mod Texts
