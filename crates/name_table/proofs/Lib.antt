mod Places
pub mod Fronts
