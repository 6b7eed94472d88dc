mod Adding
mod FirstInclusion
pub mod NewNames
