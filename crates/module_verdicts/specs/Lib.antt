pub mod Answers
pub mod DueTables
pub mod Steps
