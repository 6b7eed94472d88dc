pub mod Ahead
pub mod Loads
pub mod Shown
