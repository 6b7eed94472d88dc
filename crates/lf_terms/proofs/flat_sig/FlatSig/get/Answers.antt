use Rattle.std.proofs.Common.{◌≡◌, ap, ◌∙◌}
use Rattle.std.specs.Option.{option_copied, option_map}
use Rattle.term_trees.specs.Readings.{read_declaration}
use Rattle.lf_terms.specs.Tables.{declared}
use Rattle.lf_terms.proofs.Lookup.{copied_read, declared_read}
use Rattle.lf_terms.proofs.flat_sig.FlatSig.get.Goals as goal
use Rattle.lf_terms.proofs.flat_sig.FlatSig.get.Goals.{After-found_declaration}

found : (c : After-found_declaration) → option_copied c.found_declaration.result ≡ declared c.args.self.now c.args.name.now
found c = rw (← c.self.view_is) (c.found_declaration.ensures ∙ c.get.ensures.key)

pub returns-clause-declaration : goal.returns-clause-declaration
returns-clause-declaration c = found c

pub returns-clause-meaning : goal.returns-clause-meaning
returns-clause-meaning c = copied_read read_declaration c.found_declaration.result ∙ ap (option_map read_declaration) (found c) ∙ declared_read c.args.self.now c.args.name.now
