pub mod RaisingLaws
pub mod SortLaws
pub mod CommutationLaws
pub mod Uniform
