pub mod LentValues
pub mod HeadStates
pub mod Contexts
pub mod Steps
pub mod Answers
