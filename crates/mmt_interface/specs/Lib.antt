pub mod ReadRules
pub mod Readings
pub mod CoherentFaces
pub mod Carriages
