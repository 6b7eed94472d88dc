mod KnownWords
pub mod ListsLeft
mod Refusals
pub mod RowsOfStructures
mod RowsOfWords
pub mod CoherentLinks
