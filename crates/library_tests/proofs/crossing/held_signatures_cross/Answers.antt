use denote.Exit.{yes}
use denote.Param.Send.{arg_send, arg_sync, param_send, param_sync, recorded_send, recorded_sync, struct_send, struct_sync}
use denote.Struct.Declared.{shape}
use Rattle.send_laws.proofs.Crossing.{signature_send, signature_sync}
use Rattle.library_tests.specs.contracts.crossing.Held as held
use Rattle.library_tests.proofs.crossing.held_signatures_cross.Goals as goal

pub crosses-requires-send-T : goal.crosses-requires-send-T
crosses-requires-send-T c lifetimes = param_send _ _ (arg_send _ yes _ (recorded_send (held.the_field).row _ _ (held.the_type).to_one (struct_send (shape held.the_type) (signature_send, tt))))

pub crosses-requires-sync-T : goal.crosses-requires-sync-T
crosses-requires-sync-T c lifetimes = param_sync _ _ (arg_sync _ yes _ (recorded_sync (held.the_field).row _ _ (held.the_type).to_one (struct_sync (shape held.the_type) (signature_sync, tt))))
