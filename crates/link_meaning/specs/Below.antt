-- What those above cite of the crates below, which they have from here.
pub use Rattle.elaborate_meaning.specs.Answers
pub use Rattle.elaborate_meaning.specs.Expansion
pub use Rattle.elaborate_meaning.specs.Rules
pub use Rattle.elaborate_meaning.specs.Values
