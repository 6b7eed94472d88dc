pub mod Steps
pub mod Works
