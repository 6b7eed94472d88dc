use Rattle.std.proofs.Common.{Some, refl}
use denote.Exit.{yes}
use denote.Param.Send.{arg_send, arg_sync, param_send, param_sync}
use Rattle.board_meaning.specs.Machine.{CloseCall}
use Rattle.board_meaning.specs.Points.{Makes, NoReply}
use Rattle.module_check.proofs.Crossing.{verdict_row_send, verdict_row_sync}
use Rattle.board_front.proofs.CallPoints.{called_keeps, called_stays}
use Rattle.board_front.proofs.Closing.{call_closes}
use Rattle.board_front.proofs.calls.close.Goals as goal

pub close-requires-send-S-Answer : goal.close-requires-send-S-Answer
close-requires-send-S-Answer g c κs within = param_send _ _ (arg_send _ yes _ verdict_row_send)

pub close-requires-sync-S-Answer : goal.close-requires-sync-S-Answer
close-requires-sync-S-Answer g c κs within = param_sync _ _ (arg_sync _ yes _ verdict_row_sync)

pub returns-clause-keeps : goal.returns-clause-keeps
returns-clause-keeps g c = called_keeps c.args.pass.now c.close.new.pass c.requires.front.first (Makes CloseCall) (Some NoReply) c.close.ensures

pub returns-clause-stays : goal.returns-clause-stays
returns-clause-stays g c = called_stays c.args.pass.now c.close.new.pass c.requires.front.first (Makes CloseCall) (Some NoReply) refl c.close.ensures

pub returns-clause-closed : goal.returns-clause-closed
returns-clause-closed g c = call_closes c.args.pass.now c.close.new.pass c.close.ensures
