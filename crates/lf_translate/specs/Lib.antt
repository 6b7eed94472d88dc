pub mod Answers
pub mod Spines
pub mod Images
