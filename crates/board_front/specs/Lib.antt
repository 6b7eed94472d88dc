pub mod Carries
pub mod Faces
pub mod Staying
pub mod Told
pub mod Words
