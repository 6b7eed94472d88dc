pub mod Ends
pub mod Work
