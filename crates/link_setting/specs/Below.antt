-- What those above cite of the crates below, which they have from here.
pub use Rattle.morphism_words.specs.Readings
pub use Rattle.morphism_words.specs.Answers
