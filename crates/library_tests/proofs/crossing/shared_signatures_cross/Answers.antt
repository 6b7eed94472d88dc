use denote.Exit.{yes}
use denote.Param.Send.{arg_send, arg_sync, param_send, param_sync}
use Rattle.base_types.proofs.shared.Arc.TheSendSync as shared
use Rattle.lf_terms.specs.contracts.flat_sig.FlatSig as signature
use Rattle.send_laws.proofs.Crossing.{signature_send, signature_sync}
use Rattle.library_tests.proofs.crossing.shared_signatures_cross.Goals as goal

pub crosses-requires-send-T : goal.crosses-requires-send-T
crosses-requires-send-T c lifetimes = param_send _ _ (arg_send _ yes _ (shared.the_send signature.the_row signature_send signature_sync))

pub crosses-requires-sync-T : goal.crosses-requires-sync-T
crosses-requires-sync-T c lifetimes = param_sync _ _ (arg_sync _ yes _ (shared.the_sync signature.the_row signature_send signature_sync))
