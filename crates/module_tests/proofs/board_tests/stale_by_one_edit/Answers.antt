use denote.Exit.{yes}
use denote.Param.Send.{arg_send, arg_sync, param_send, param_sync}
use Rattle.module_check.proofs.Crossing.{verdict_row_send, verdict_row_sync}
use Rattle.module_tests.proofs.board_tests.stale_by_one_edit.Goals as goal

pub stale_by_one_edit-requires-send-S-Answer : goal.stale_by_one_edit-requires-send-S-Answer
stale_by_one_edit-requires-send-S-Answer c κs = param_send _ _ (arg_send _ yes _ verdict_row_send)

pub stale_by_one_edit-requires-sync-S-Answer : goal.stale_by_one_edit-requires-sync-S-Answer
stale_by_one_edit-requires-sync-S-Answer c κs = param_sync _ _ (arg_sync _ yes _ verdict_row_sync)
