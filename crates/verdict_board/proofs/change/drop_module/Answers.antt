use Rattle.std.proofs.Common.{sym, ap, ◌∙◌, length, subst, arith}
use Rattle.edit_log_meaning.specs.Log.{Drop}
use Rattle.name_meaning.specs.Rows.{row_names, IsTable}
use Rattle.name_laws.proofs.Rows.{table_without}
use Rattle.verdict_board.specs.Stages.{HaveSortedInputs}
use Rattle.verdict_board.proofs.Tables.{new_kept, same_without, sorted_with, without_row_few}
use Rattle.verdict_board.proofs.change.drop_module.Goals as goal

pub first-requires : goal.first-requires
first-requires g c =
    let before = c.len.ensures.len in
    let after = c.len-in-Ok.ensures.len in
    let rows = ap length c.remove.ensures.rows in
    let few = without_row_few c.in_ok-name.name c.args.graph.now in
    (c.len.result, omega (arith, before, after, rows, few), c.in_ok-rest.ensures)

pub fall-requires : goal.fall-requires
fall-requires g c = record {
  kept = new_kept c.remove-in-Ok.new.self c.remove.new.self c.len-in-Ok.result c.first.result (subst IsTable (sym c.remove-in-Ok.ensures.rows) (table_without c.in_ok-name.name c.args.stages.now c.requires.kept.table))
      (ap row_names c.remove-in-Ok.ensures.rows ∙ same_without c.in_ok-name.name c.args.stages.now c.args.graph.now c.requires.kept.names ∙ sym (ap row_names c.remove.ensures.rows))
      c.len-in-Ok.ensures.len c.first.ensures;
  sorted = subst HaveSortedInputs (sym c.remove-in-Ok.ensures.rows) (sorted_with c.args.stages.now (Drop c.in_ok-name.name) c.requires.sorted);
}
