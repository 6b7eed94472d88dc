-- What those above cite of the crates below, which they have from here.
pub use Rattle.link_passes.proofs.Below.CoherentLinks
pub use Rattle.link_passes.proofs.Below.Chained
