pub mod Fronts
pub mod Gates
pub mod LastGates
pub mod Damage
pub mod TornWrites
pub mod Appending
pub mod CutShort
pub mod Moments
mod FilesComputed
pub mod OneForm
