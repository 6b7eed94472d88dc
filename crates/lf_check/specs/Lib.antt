pub mod Answers
pub mod Environments
pub mod Stops
