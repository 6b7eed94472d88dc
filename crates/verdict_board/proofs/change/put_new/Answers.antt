use Rattle.std.proofs.Common.{◌≡◌, ◌+◌, ◌-◌, ◌^◌, min, is_some, length, ap, sym, subst, ◌∙◌, arith}
use Rattle.name_meaning.specs.Rows.{row_names, row_of, without_row, IsTable}
use Rattle.name_laws.proofs.Rows.{table_with}
use Rattle.verdict_board.specs.declared.stage.Stage.TheVariants.{Waiting}
use Rattle.verdict_board.specs.Stages.{HaveSortedInputs}
use Rattle.verdict_board.proofs.Tables.{new_kept, same_with, same_there, sorted_added, taken_back, with_row_few}
use Rattle.verdict_board.proofs.change.put_new.Goals as goal

pub first-requires : goal.first-requires
first-requires g c =
    let before = c.len.ensures.len in
    let after = c.len-in-Ok.ensures.len in
    let rows = ap length c.in_ok-add.ensures.graph in
    let few = with_row_few c.in_ok-name.name c.args.graph.now c.args.dependencies in
    let more : c.saturating_add.result ≡ min (c.len.result + 1) (2 ^ 64 - 1) = omega (arith, c.saturating_add.ensures) in
    let range = c.len-in-Ok.type_inv in
    (c.saturating_add.result, omega (arith, before, after, rows, few, more, range), c.in_ok-fresh.ensures)

pub fall-requires-clause-kept : goal.fall-requires-clause-kept
fall-requires-clause-kept g c =
    new_kept c.add.new.stages c.add.new.graph c.len-in-Ok.result c.first.result (subst IsTable (sym c.in_ok-add.ensures.stages) (table_with c.in_ok-name.name Waiting c.args.stages.now c.requires.kept.table))
    (ap row_names c.in_ok-add.ensures.stages ∙ same_with c.in_ok-name.name Waiting c.args.dependencies c.args.stages.now c.args.graph.now c.requires.kept.names ∙ sym (ap row_names c.in_ok-add.ensures.graph))
    c.len-in-Ok.ensures.len c.first.ensures

pub fall-requires-clause-sorted : goal.fall-requires-clause-sorted
fall-requires-clause-sorted g c =
    let absent = ap (λ name. is_some (row_of c.args.stages.now name)) (c.in_ok-name.ensures ∙ c.name.ensures) ∙ c.requires.absent in
    subst HaveSortedInputs (sym c.in_ok-add.ensures.stages) (sorted_added c.in_ok-name.name c.args.stages.now absent c.requires.sorted)

pub returns-clause-graph_unchanged : goal.returns-clause-graph_unchanged
returns-clause-graph_unchanged g c =
    let absent = ap (λ name. is_some (row_of c.args.stages.now name)) (c.in_ok-name.ensures ∙ c.name.ensures) ∙ c.requires.absent in
    c.remove.ensures.rows ∙ ap (without_row c.in_ok-name.name) c.in_ok-add.ensures.graph
    ∙ taken_back c.in_ok-name.name _ c.args.graph.now (sym (same_there c.in_ok-name.name c.args.stages.now c.args.graph.now c.requires.kept.names) ∙ absent)

pub returns-clause-stages_unchanged : goal.returns-clause-stages_unchanged
returns-clause-stages_unchanged g c =
    let absent = ap (λ name. is_some (row_of c.args.stages.now name)) (c.in_ok-name.ensures ∙ c.name.ensures) ∙ c.requires.absent in
    c.remove-in-Err.ensures.rows ∙ ap (without_row c.in_ok-name.name) c.in_ok-add.ensures.stages ∙ taken_back c.in_ok-name.name Waiting c.args.stages.now absent
