pub mod WalkLaws
pub mod GraphLaws
