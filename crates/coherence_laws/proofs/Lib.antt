pub mod TheoriesHold
pub mod ModulesHold
pub mod Transfer
pub mod LibrariesHold
pub mod AcceptedTrees
pub mod SizesHold
pub mod InclusionsReached
pub mod BuildingHolds
