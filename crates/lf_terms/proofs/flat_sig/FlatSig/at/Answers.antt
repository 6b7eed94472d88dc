use Rattle.std.proofs.Common.{◌≡◌, ◌∙◌}
use Rattle.std.specs.Prelude.{slice_get}
use Rattle.std.specs.Option.{option_copied}
use Rattle.term_trees.specs.Readings.{read_declaration}
use Rattle.lf_terms.proofs.Lookup.{none_behind, read_at}
use Rattle.lf_terms.proofs.flat_sig.FlatSig.at.Goals as goal
use Rattle.lf_terms.proofs.flat_sig.FlatSig.at.Goals.{After-found_declaration}

item : (c : After-found_declaration) → option_copied c.found_declaration.result ≡ slice_get c.args.self.now c.args.i
item c = rw (← c.self.view_is) (c.found_declaration.ensures ∙ c.get_index.ensures.key)

pub returns-clause-item : goal.returns-clause-item
returns-clause-item c = item c

pub returns-clause-none : goal.returns-clause-none
returns-clause-none c = none_behind c.args.self.now c.args.i c.found_declaration.result (item c)

pub returns-clause-meaning : goal.returns-clause-meaning
returns-clause-meaning c = read_at read_declaration c.found_declaration.result c.args.self.now c.args.i (item c)
