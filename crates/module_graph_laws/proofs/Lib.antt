pub mod Agreement
pub mod Reaching
pub mod Walking
pub mod Graphs
