-- What those above cite of the crates below, which they have from here.
pub use Rattle.eta_meaning.specs.Below.Names
pub use Rattle.eta_meaning.specs.Below.Rows
pub use Rattle.eta_meaning.specs.Below.Equality
pub use Rattle.eta_meaning.specs.Below.Erasure
pub use Rattle.eta_meaning.specs.Below.HeadMaps
pub use Rattle.eta_meaning.specs.Below.Raising
pub use Rattle.eta_meaning.specs.Below.Signatures
pub use Rattle.eta_meaning.specs.Below.Terms
pub use Rattle.eta_meaning.specs.LongTerms
