pub mod Counts
pub mod Found
pub mod Numerals
pub mod Parts
