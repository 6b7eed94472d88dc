pub mod Below
pub mod Readings
pub mod Answers
pub mod Labels
pub mod PathTrees
