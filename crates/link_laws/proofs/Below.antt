-- What those above cite of the crates below, which they have from here.
pub use Rattle.elaborate_laws.proofs.ValuesStand
pub use Rattle.constant_laws.proofs.Declared
