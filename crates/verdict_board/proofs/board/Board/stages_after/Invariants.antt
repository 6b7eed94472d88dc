use Rattle.std.proofs.Common.{◌≡◌, Some, take}
use Rattle.name_meaning.specs.Names.{Name}
use Rattle.name_meaning.specs.Rows.{row_names, row_of}
use Rattle.edit_log.specs.Readings.{read_edit}
use Rattle.verdict_board.specs.declared.stage.Stage.{Stage}
use Rattle.verdict_board.specs.Stages.{IsStage, after_edit_of}
use Rattle.verdict_board.proofs.board.Board.stages_after.Given as goal

abbrev pub invariant-loop-place : goal.invariant-loop-place
invariant-loop-place g l = record {
  names : row_names l.stages ≡ take l.place (row_names l.graph);
  staged : (name : Name) (stage : Stage g.row.S-Answer.Denot) → row_of l.stages name ≡ Some stage → IsStage g.S.Subject.subject g.S.Subject.meaning (after_edit_of l.self (read_edit l.edit)) name stage;
}
