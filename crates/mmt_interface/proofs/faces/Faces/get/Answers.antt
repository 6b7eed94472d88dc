use Rattle.std.proofs.Common.{◌≡◌, sym, ap, ◌∙◌}
use Rattle.std.specs.Option.{option_copied, option_map}
use Rattle.name_meaning.specs.Rows.{row_of}
use Rattle.name_laws.proofs.RowLookups.{row_looked_up}
use Rattle.lf_terms.proofs.Lookup.{copied_read}
use Rattle.mmt_interface.specs.Readings.{read_verdict}
use Rattle.mmt_interface.proofs.Known.{verdict_read}
use Rattle.mmt_interface.proofs.faces.Faces.get.Goals as goal
use Rattle.mmt_interface.proofs.faces.Faces.get.Goals.{After-get}

found : (c : After-get) → option_copied c.get.result ≡ row_of c.args.self.now c.args.name.now
found c = rw (← c.self.view_is) (c.get.ensures.value ∙ sym (row_looked_up c.self.inside.verdicts.entries c.args.name.now))

pub returns-clause-verdict : goal.returns-clause-verdict
returns-clause-verdict c = found c

pub returns-clause-meaning : goal.returns-clause-meaning
returns-clause-meaning c = copied_read read_verdict c.get.result ∙ ap (option_map read_verdict) (found c) ∙ sym (verdict_read c.args.self.now c.args.name.now)
