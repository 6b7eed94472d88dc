pub mod Readings
pub mod Arguments
pub mod Products
