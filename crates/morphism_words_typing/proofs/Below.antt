-- What those above cite of the crates below, which they have from here.
pub use Rattle.link_laws.proofs.CoveringMaps
pub use Rattle.link_laws.proofs.Reading
