pub mod Below
pub mod Answers
pub mod Steps
