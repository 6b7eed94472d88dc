use denote.Exit.{yes}
use denote.Param.Send.{arg_send, arg_sync, param_send, param_sync}
use Rattle.board_front.proofs.Subject.{verdict_row_send, verdict_row_sync}
use Rattle.std.specs.Prelude.{None}
use Rattle.command_words_meaning.specs.WordLists.{Generate}
use Rattle.mmt_top.proofs.ToldTyping.{tells_typed}
use Rattle.mmt_top.proofs.generator_session.generate.Goals as goal

pub new-requires-send-S-Answer : goal.new-requires-send-S-Answer
new-requires-send-S-Answer g c κs = param_send _ _ (arg_send _ yes _ verdict_row_send)

pub new-requires-sync-S-Answer : goal.new-requires-sync-S-Answer
new-requires-sync-S-Answer g c κs = param_sync _ _ (arg_sync _ yes _ verdict_row_sync)

pub returns-in_default-clause-typed : goal.returns-in_default-clause-typed
returns-in_default-clause-typed g c = tells_typed (Generate c.args.start c.args.modules c.args.edits) None None

pub returns-clause-typed : goal.returns-clause-typed
returns-clause-typed g c = tells_typed (Generate c.args.start c.args.modules c.args.edits) None None
