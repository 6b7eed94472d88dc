mod GroundedNames
mod Firsts
mod Reached
mod Peeled
pub mod MergeSteps
pub mod PartsOfReach
