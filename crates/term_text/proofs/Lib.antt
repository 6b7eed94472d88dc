pub mod Standing
pub mod Written
pub mod Paths
pub mod Searching
pub mod Binders
