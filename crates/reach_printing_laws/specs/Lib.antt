pub mod Below
pub mod PrintedFaces
