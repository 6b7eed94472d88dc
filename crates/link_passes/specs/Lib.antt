pub mod Below
pub mod Answers
pub mod Reaching
pub mod Targets
pub mod Steps
pub mod SharedImages
