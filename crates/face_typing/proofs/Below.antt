-- What those above cite of the crates below, which they have from here.
pub use Rattle.coherence_laws.proofs.BuildingHolds
pub use Rattle.coherence_laws.proofs.LibrariesHold
pub use Rattle.coherence_laws.proofs.ModulesHold
pub use Rattle.elaborate_typing.proofs.Expanding
pub use Rattle.link_laws.proofs.InducedHold
pub use Rattle.link_laws.proofs.LinksHold
pub use Rattle.link_laws.proofs.Onces
pub use Rattle.link_laws.proofs.WordsHold
pub use Rattle.morphism_words_typing.proofs.Grown
pub use Rattle.morphism_words_typing.proofs.ProperImages
