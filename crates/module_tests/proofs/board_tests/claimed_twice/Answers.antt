use denote.Exit.{yes}
use denote.Param.Send.{arg_send, arg_sync, param_send, param_sync}
use Rattle.module_check.proofs.Crossing.{verdict_row_send, verdict_row_sync}
use Rattle.module_tests.proofs.board_tests.claimed_twice.Goals as goal

pub claimed_twice-requires-send-S-Answer : goal.claimed_twice-requires-send-S-Answer
claimed_twice-requires-send-S-Answer c κs = param_send _ _ (arg_send _ yes _ verdict_row_send)

pub claimed_twice-requires-sync-S-Answer : goal.claimed_twice-requires-sync-S-Answer
claimed_twice-requires-sync-S-Answer c κs = param_sync _ _ (arg_sync _ yes _ verdict_row_sync)
