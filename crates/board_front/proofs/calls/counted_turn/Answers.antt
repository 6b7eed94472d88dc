use denote.Exit.{yes}
use denote.Param.Send.{arg_send, arg_sync, param_send, param_sync}
use Rattle.module_check.proofs.Crossing.{verdict_row_send, verdict_row_sync}
use Rattle.board_front.proofs.calls.counted_turn.Goals as goal

pub turn-requires-send-S-Answer : goal.turn-requires-send-S-Answer
turn-requires-send-S-Answer g c κs within = param_send _ _ (arg_send _ yes _ verdict_row_send)

pub turn-requires-sync-S-Answer : goal.turn-requires-sync-S-Answer
turn-requires-sync-S-Answer g c κs within = param_sync _ _ (arg_sync _ yes _ verdict_row_sync)
