use denote.Exit.{yes}
use denote.Param.Send.{arg_send, arg_sync, param_send, param_sync}
use Rattle.module_check.proofs.Crossing.{verdict_row_send, verdict_row_sync}
use Rattle.board_front.proofs.verdict.told.Goals as goal

pub announce_end-announced-requires-send-S-Answer : goal.announce_end-announced-requires-send-S-Answer
announce_end-announced-requires-send-S-Answer g c κs = param_send _ _ (arg_send _ yes _ verdict_row_send)

pub announce_end-announced-requires-sync-S-Answer : goal.announce_end-announced-requires-sync-S-Answer
announce_end-announced-requires-sync-S-Answer g c κs = param_sync _ _ (arg_sync _ yes _ verdict_row_sync)
