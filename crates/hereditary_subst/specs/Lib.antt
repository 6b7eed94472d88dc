pub mod Codomain
pub mod LongForms
