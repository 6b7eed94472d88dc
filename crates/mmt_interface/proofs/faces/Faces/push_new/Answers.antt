use Rattle.std.proofs.Common.{◌≡◌, None, sym, ◌∙◌}
use Rattle.std.specs.Map.{lookup}
use Rattle.name_meaning.specs.Names.{same_name}
use Rattle.indexmap.proofs.CallerLemmas.{insert_entry-new}
use Rattle.name_laws.proofs.RowLookups.{row_looked_up}
use Rattle.mmt_interface.proofs.faces.Faces.push_new.Goals as goal
use Rattle.mmt_interface.proofs.faces.Faces.push_new.Goals.{in-Ok, in-Err}

pub returns-clause-ok : goal.returns-clause-ok
returns-clause-ok c =
    let table = c.self.inside.verdicts in
    let absent : lookup (same_name c.args.name) table.entries ≡ None = sym (row_looked_up table.entries c.args.name) ∙ rw c.self.view_is c.requires in
    let added = insert_entry-new same_name table c.args.name c.args.verdict absent in
    elim c.match-insert.branch [ in-Ok w ↦ rw (w.result-is, ← c.self.view_is) (w.in-Ok.ensures.entries ∙ added) | in-Err w ↦ rw w.result-is tt ]
