pub mod Turns
pub mod Ending
pub mod Results
pub mod Staying
