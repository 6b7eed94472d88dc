use denote.Exit.{yes}
use denote.Param.Send.{arg_send, arg_sync, param_send, param_sync}
use Rattle.send_laws.proofs.Crossing.{head_map_send, head_map_sync}
use Rattle.library_tests.proofs.crossing.maps_cross.Goals as goal

pub crosses-requires-send-T : goal.crosses-requires-send-T
crosses-requires-send-T c lifetimes = param_send _ _ (arg_send _ yes _ head_map_send)

pub crosses-requires-sync-T : goal.crosses-requires-sync-T
crosses-requires-sync-T c lifetimes = param_sync _ _ (arg_sync _ yes _ head_map_sync)
