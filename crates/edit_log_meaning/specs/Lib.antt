pub mod Log
pub mod Append
