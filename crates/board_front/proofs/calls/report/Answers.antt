use Rattle.std.proofs.Common.{refl}
use denote.Exit.{yes}
use denote.Param.Send.{arg_send, arg_sync, param_send, param_sync}
use Rattle.board_meaning.specs.Points.{Reports}
use Rattle.mmt_interface.specs.Readings.{read_verdict}
use Rattle.board_seats.specs.Replies.{read_report}
use Rattle.module_check.proofs.Crossing.{verdict_row_send, verdict_row_sync}
use Rattle.board_front.proofs.CallPoints.{called_keeps, called_stays, report_told}
use Rattle.board_front.proofs.calls.report.Goals as goal

pub report_before_turn-requires-send-S-Answer : goal.report_before_turn-requires-send-S-Answer
report_before_turn-requires-send-S-Answer g c κs within = param_send _ _ (arg_send _ yes _ verdict_row_send)

pub report_before_turn-requires-sync-S-Answer : goal.report_before_turn-requires-sync-S-Answer
report_before_turn-requires-sync-S-Answer g c κs within = param_sync _ _ (arg_sync _ yes _ verdict_row_sync)

pub returns-clause-keeps : goal.returns-clause-keeps
returns-clause-keeps g c = called_keeps c.args.pass.now c.report_before_turn.new.pass c.requires.front.first (Reports c.args.name.now) (read_report read_verdict c.report_before_turn.result) c.report_before_turn.ensures

pub returns-clause-told : goal.returns-clause-told
returns-clause-told g c = report_told c.args.pass.now c.report_before_turn.new.pass c.requires.front.first c.args.name.now c.report_before_turn.result c.report_before_turn.ensures

pub returns-clause-stays : goal.returns-clause-stays
returns-clause-stays g c =
    called_stays c.args.pass.now c.report_before_turn.new.pass c.requires.front.first (Reports c.args.name.now) (read_report read_verdict c.report_before_turn.result) refl c.report_before_turn.ensures
