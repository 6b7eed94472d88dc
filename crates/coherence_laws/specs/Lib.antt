pub mod CoherenceLaws
pub mod InclusionLaws
pub mod BuildingLaws
pub mod LinksSoFar
