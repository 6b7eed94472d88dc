pub mod Below
pub mod FirstRefusals
pub mod Refusing
pub mod Chained
pub mod NewImages
pub mod PathTrees
pub mod Beginnings
