pub mod ClosureKept
pub mod ClosureMembers
pub mod Computed
pub mod ComputedWords
pub mod Resolving
pub mod KnownRows
pub mod OwnConstants
