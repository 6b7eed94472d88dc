pub mod Below
pub mod Adding
mod TypedStructures
