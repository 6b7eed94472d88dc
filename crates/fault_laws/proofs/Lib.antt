pub mod Telling
pub mod ExpressionFaults
pub mod LinkFaults
pub mod ModuleFaults
pub mod Grounds
pub mod FaultsWithin
