pub mod Below
pub mod LinkTargets
pub mod TheoryScopes
pub mod BetweenTheories
pub mod InducedConstants
pub mod LinkLaws
pub mod CoveringLaws
