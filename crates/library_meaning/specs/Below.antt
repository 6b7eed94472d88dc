-- What those above cite of the crates below, which they have from here.
pub use Rattle.translation_meaning.specs.AtomicFamilies
pub use Rattle.translation_meaning.specs.Below.Equality
pub use Rattle.translation_meaning.specs.Below.LongTerms
pub use Rattle.translation_meaning.specs.Below.Raising
pub use Rattle.translation_meaning.specs.Below.Signatures
pub use Rattle.translation_meaning.specs.Below.Terms
pub use Rattle.translation_meaning.specs.Differ
pub use Rattle.translation_meaning.specs.Heads
pub use Rattle.translation_meaning.specs.Translation
