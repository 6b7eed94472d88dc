-- What those above cite of the crates below, which they have from here.
pub use Rattle.link_setting.proofs.Below.CoherentLinks
pub use Rattle.link_setting.proofs.FirstRefusals
pub use Rattle.link_setting.proofs.Refusing
pub use Rattle.link_setting.proofs.Chained
