-- What those above cite of the crates below, which they have from here.
pub use Rattle.coherence_laws.specs.BuildingLaws
pub use Rattle.coherence_laws.specs.CoherenceLaws
pub use Rattle.elaborate_typing.specs.TypingOfExpansion
pub use Rattle.morphism_words_typing.specs.TypedFaces
pub use Rattle.morphism_words_typing.specs.TypedLinks
