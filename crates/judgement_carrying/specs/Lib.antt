pub mod Below
pub mod Expanded
pub mod OneLibrary
