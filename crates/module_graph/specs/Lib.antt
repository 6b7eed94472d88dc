pub mod Subjects
pub mod Peeling
pub mod PeelingState
pub mod Reaching
pub mod Merging
pub mod ReachParts
