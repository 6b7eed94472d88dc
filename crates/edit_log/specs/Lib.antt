pub mod Readings
pub mod Keeping
