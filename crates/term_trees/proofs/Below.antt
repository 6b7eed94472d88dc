-- What those above cite of the crates below, which they have from here.
pub use Rattle.lf_term_laws.proofs.Equality
