pub mod Libraries
pub mod Limits
pub mod Positions
pub mod Stamped
