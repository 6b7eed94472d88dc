use Rattle.std.proofs.Common.{◌≡◌}
use Rattle.lf_terms.specs.Tables.{place_of}
use Rattle.lf_terms.proofs.Lookup.{place_read}
use Rattle.lf_terms.proofs.flat_sig.FlatSig.place.Goals as goal
use Rattle.lf_terms.proofs.flat_sig.FlatSig.place.Goals.{After-get_index_of}

found : (c : After-get_index_of) → c.get_index_of.result ≡ place_of c.args.self.now c.args.name.now
found c = rw (← c.self.view_is) c.get_index_of.ensures.index

pub returns-clause-index : goal.returns-clause-index
returns-clause-index c = found c

pub returns-clause-meaning : goal.returns-clause-meaning
returns-clause-meaning c = place_read c.args.self.now c.args.name.now c.get_index_of.result (found c)
