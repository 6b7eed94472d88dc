pub mod ReadingEquations
pub mod Unlabelled
pub mod Nodes
