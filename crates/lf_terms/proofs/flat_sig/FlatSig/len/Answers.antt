use Rattle.lf_terms.proofs.Lookup.{distinct_declared}
use Rattle.lf_terms.proofs.flat_sig.FlatSig.len.Goals as goal

pub returns-clause-distinct : goal.returns-clause-distinct
returns-clause-distinct c = rw (← c.self.view_is) (distinct_declared c.self.inside.decls.keys c.len.ensures.unique)
