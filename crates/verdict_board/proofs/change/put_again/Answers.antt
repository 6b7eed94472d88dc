use Rattle.std.proofs.Common.{is_some, ap, sym, ◌∙◌}
use Rattle.edit_log_meaning.specs.Log.{edited_name}
use Rattle.name_meaning.specs.Rows.{row_of}
use Rattle.edit_log.specs.Readings.{read_edit}
use Rattle.verdict_board.proofs.Tables.{same_there}
use Rattle.verdict_board.proofs.change.put_again.Goals as goal

pub replace-requires : goal.replace-requires
replace-requires g c =
    ap (λ name. is_some (row_of c.args.graph.now name)) (c.in_ok-name.ensures ∙ c.name.ensures)
    ∙ sym (same_there (edited_name (read_edit c.args.edit)) c.args.stages.now c.args.graph.now c.requires.kept.names) ∙ c.requires.there

pub renew-requires : goal.renew-requires
renew-requires g c = record {
  there = ap (λ name. is_some (row_of c.args.stages.now name)) (c.in_ok-name.ensures ∙ c.name.ensures) ∙ c.requires.there;
  kept = (c.args.graph.now, c.requires.kept);
}

pub fall-requires-clause-kept : goal.fall-requires-clause-kept
fall-requires-clause-kept g c = rw c.replace.ensures (c.renew.ensures c.args.graph.now c.requires.kept c.in_ok-row.row)
