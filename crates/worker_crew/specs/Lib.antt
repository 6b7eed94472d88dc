pub mod Workers
pub mod Hired
pub mod Worked
pub mod TakenIn
pub mod Leading
pub mod Places
