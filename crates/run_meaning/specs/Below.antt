-- What those above cite of the crates below, which they have from here.
pub use Rattle.printing_meaning.specs.CarriedLines
pub use Rattle.printing_meaning.specs.VerdictLines
