-- What those above cite of the crates below, which they have from here.
pub use Rattle.library_meaning.specs.Below.Differ
pub use Rattle.library_meaning.specs.Below.Translation
