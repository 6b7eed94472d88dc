use Rattle.std.proofs.Common.{ap, ◌∙◌}
use Rattle.name_meaning.specs.Rows.{with_row}
use Rattle.edit_log.specs.Readings.{read_library}
use Rattle.edit_log.proofs.Tables.{read_with, read_without}
use Rattle.edit_log.proofs.changes.change_text.Goals as goal
use Rattle.edit_log.proofs.changes.change_text.Goals.{in-Ok, in-Err}

pub returns-after-insert-clause-ok : goal.returns-after-insert-clause-ok
returns-after-insert-clause-ok c =
    elim c.match-insert.branch [
      | in-Ok w ↦ rw (w.result-is, c.in-Put.is) (ap read_library w.in-Ok.ensures.ok
          ∙ (λ i. read_library (with_row (c.in_ok-name-in-Put.ensures i) (c.in_ok-text-in-Put.ensures i) c.args.texts.now))
          ∙ read_with c.in-Put.name c.in-Put.text c.args.texts.now)
      | in-Err w ↦ rw w.result-is tt
    ]

pub returns-in-Drop-clause-ok : goal.returns-in-Drop-clause-ok
returns-in-Drop-clause-ok c = rw c.in-Drop.is (ap read_library c.remove.ensures.rows ∙ read_without _ _)
