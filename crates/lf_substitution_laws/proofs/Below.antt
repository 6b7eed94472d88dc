-- What those above cite of the crates below, which they have from here.
pub use Rattle.lf_term_laws.proofs.Declarations
pub use Rattle.lf_term_laws.proofs.Equality
pub use Rattle.lf_term_laws.proofs.Lookups
pub use Rattle.lf_term_laws.proofs.Substituted
