-- What those above cite of the crates below, which they have from here.
pub use Rattle.morphism_words.proofs.ListsLeft
pub use Rattle.morphism_words.proofs.CoherentLinks
pub use Rattle.morphism_words.proofs.RowsOfStructures
