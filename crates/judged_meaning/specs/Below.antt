-- What those above cite of the crates below, which they have from here.
pub use Rattle.verdict_meaning.specs.Below.Refusals
pub use Rattle.verdict_meaning.specs.Below.Rules
pub use Rattle.verdict_meaning.specs.Verdicts
