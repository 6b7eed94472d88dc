use Rattle.std.proofs.Common.{ap, sym, ◌∙◌}
use Rattle.name_meaning.specs.Rows.{with_row, without_row}
use Rattle.verdict_board.proofs.Tables.{same_there, taken_back}
use Rattle.verdict_board.proofs.change.add.Goals as goal

pub returns-in-Err-clause-graph_unchanged : goal.returns-in-Err-clause-graph_unchanged
returns-in-Err-clause-graph_unchanged g c =
    let absent = sym (same_there c.args.name.now c.args.stages.now c.args.graph.now c.requires.names) ∙ c.requires.absent in
    c.remove.ensures.rows ∙ ap (without_row c.args.name.now) (c.in_ok-set.ensures.ok ∙ ap (λ name. with_row name c.args.dependencies c.args.graph.now) c.in_ok-copy.ensures)
    ∙ taken_back c.args.name.now c.args.dependencies c.args.graph.now absent
