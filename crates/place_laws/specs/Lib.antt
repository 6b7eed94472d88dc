pub mod PlaceLaws
pub mod FilePlaceLaws
