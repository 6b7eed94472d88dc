pub mod TypedFaces
pub mod TypedLinks
