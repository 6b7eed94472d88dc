-- What those above cite of the crates below, which they have from here.
pub use Rattle.constant_laws.specs.HoldingLaws
