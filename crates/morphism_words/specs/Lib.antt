pub mod Readings
pub mod Answers
pub mod LentLinks
pub mod Steps
pub mod CoherentLinks
