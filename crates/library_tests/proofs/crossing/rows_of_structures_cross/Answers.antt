use denote.Exit.{yes}
use denote.Param.Send.{arg_send, arg_sync, param_send, param_sync}
use Rattle.base_types.proofs.sequence.Sequence.TheSendSync as sequences
use Rattle.mmt_interface.specs.contracts.face.StructFace as structure
use Rattle.send_laws.proofs.Crossing.{structure_row_send, structure_row_sync}
use Rattle.library_tests.proofs.crossing.rows_of_structures_cross.Goals as goal

pub crosses-requires-send-T : goal.crosses-requires-send-T
crosses-requires-send-T c lifetimes = param_send _ _ (arg_send _ yes _ (sequences.the_send structure.the_row structure_row_send))

pub crosses-requires-sync-T : goal.crosses-requires-sync-T
crosses-requires-sync-T c lifetimes = param_sync _ _ (arg_sync _ yes _ (sequences.the_sync structure.the_row structure_row_sync))
