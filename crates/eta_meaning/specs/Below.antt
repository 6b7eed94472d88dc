-- What those above cite of the crates below, which they have from here.
pub use Rattle.lf_meaning.specs.Below.Names
pub use Rattle.lf_meaning.specs.Below.Rows
pub use Rattle.lf_meaning.specs.Equality
pub use Rattle.lf_meaning.specs.Erasure
pub use Rattle.lf_meaning.specs.HeadMaps
pub use Rattle.lf_meaning.specs.Judgements
pub use Rattle.lf_meaning.specs.Raising
pub use Rattle.lf_meaning.specs.Replacement
pub use Rattle.lf_meaning.specs.Signatures
pub use Rattle.lf_meaning.specs.Substitution
pub use Rattle.lf_meaning.specs.Terms
