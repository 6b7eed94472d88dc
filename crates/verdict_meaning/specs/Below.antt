-- What those above cite of the crates below, which they have from here.
pub use Rattle.link_meaning.specs.Below.Answers
pub use Rattle.link_meaning.specs.Below.Expansion
pub use Rattle.link_meaning.specs.Below.Rules
pub use Rattle.link_meaning.specs.Refusals
