use denote.Exit.{yes}
use denote.Param.Send.{arg_send, arg_sync, param_send, param_sync}
use Rattle.board_front.proofs.Subject.{verdict_row_send, verdict_row_sync}
use Rattle.mmt_top.proofs.Led.{closed_at_once}
use Rattle.mmt_top.proofs.ended.unbegun.Goals as goal

pub close-requires-send-S-Answer : goal.close-requires-send-S-Answer
close-requires-send-S-Answer c κs = param_send _ _ (arg_send _ yes _ verdict_row_send)

pub close-requires-sync-S-Answer : goal.close-requires-sync-S-Answer
close-requires-sync-S-Answer c κs = param_sync _ _ (arg_sync _ yes _ verdict_row_sync)

pub returns-clause-board : goal.returns-clause-board
returns-clause-board c = closed_at_once c.args.board c.close.new.self c.requires c.close.ensures
