pub mod Walks
pub mod Reach
pub mod Subject
pub mod Graphs
