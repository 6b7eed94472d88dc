pub mod HeadsTyped
pub mod Expanding
pub mod Applied
