use denote.Exit.{yes}
use denote.Param.Send.{arg_send, arg_sync, param_send, param_sync}
use Rattle.board_meaning.specs.Machine.{EditCall}
use Rattle.board_meaning.specs.Points.{Makes}
use Rattle.edit_log.specs.Readings.{read_edit}
use Rattle.board_seats.specs.Replies.{read_edit_reply}
use Rattle.module_check.proofs.Crossing.{verdict_row_send, verdict_row_sync}
use Rattle.board_front.proofs.CallPoints.{called_keeps, edit_answer, edit_goes}
use Rattle.board_front.proofs.calls.edit.Goals as goal

pub edit_read_before-requires-send-S-Answer : goal.edit_read_before-requires-send-S-Answer
edit_read_before-requires-send-S-Answer g c κs within = param_send _ _ (arg_send _ yes _ verdict_row_send)

pub edit_read_before-requires-sync-S-Answer : goal.edit_read_before-requires-sync-S-Answer
edit_read_before-requires-sync-S-Answer g c κs within = param_sync _ _ (arg_sync _ yes _ verdict_row_sync)

pub returns-clause-keeps : goal.returns-clause-keeps
returns-clause-keeps g c =
    called_keeps c.args.pass.now c.edit_read_before.new.pass c.requires.front.first (Makes (EditCall (read_edit c.args.edit))) (read_edit_reply c.edit_read_before.result) c.edit_read_before.ensures

pub returns-clause-answer : goal.returns-clause-answer
returns-clause-answer g c = edit_answer c.args.pass.now c.edit_read_before.new.pass c.requires.front.first (read_edit c.args.edit) c.edit_read_before.result c.edit_read_before.ensures

pub returns-clause-goes : goal.returns-clause-goes
returns-clause-goes g c = edit_goes c.args.pass.now c.edit_read_before.new.pass c.requires.front.first (read_edit c.args.edit) c.edit_read_before.result c.edit_read_before.ensures
