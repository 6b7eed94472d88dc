pub mod Lists
pub mod Worked
pub mod Hired
pub mod Joined
pub mod Beside
pub mod Halves
