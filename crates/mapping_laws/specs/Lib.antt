pub mod MappedWhole
pub mod FollowedLinks
pub mod NextImages
