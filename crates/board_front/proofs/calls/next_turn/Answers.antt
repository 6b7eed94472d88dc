use denote.Exit.{yes}
use denote.Param.Send.{arg_send, arg_sync, param_send, param_sync}
use Rattle.module_check.proofs.Crossing.{verdict_row_send, verdict_row_sync}
use Rattle.board_front.proofs.CallPoints.{ended_stays}
use Rattle.board_front.proofs.calls.next_turn.Goals as goal

pub all_work-requires-send-S-Answer : goal.all_work-requires-send-S-Answer
all_work-requires-send-S-Answer g c κs = param_send _ _ (arg_send _ yes _ verdict_row_send)

pub all_work-requires-sync-S-Answer : goal.all_work-requires-sync-S-Answer
all_work-requires-sync-S-Answer g c κs = param_sync _ _ (arg_sync _ yes _ verdict_row_sync)

pub rest-requires-send-S-Answer : goal.rest-requires-send-S-Answer
rest-requires-send-S-Answer g c κs within = param_send _ _ (arg_send _ yes _ verdict_row_send)

pub rest-requires-sync-S-Answer : goal.rest-requires-sync-S-Answer
rest-requires-sync-S-Answer g c κs within = param_sync _ _ (arg_sync _ yes _ verdict_row_sync)

pub returns-clause-stays : goal.returns-clause-stays
returns-clause-stays g c =
    ended_stays c.args.pass.now c.counted_turn.new.pass c.requires.front.first c.counted_turn.result c.counted_turn.ensures.ends c.counted_turn.ensures.wants
