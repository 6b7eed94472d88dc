use Rattle.std.proofs.Common.{◌≡◌, subst}
use denote.Exit.{yes}
use denote.Param.Send.{arg_send, arg_sync, param_send, param_sync}
use Rattle.board_front.proofs.Subject.{verdict_row_send, verdict_row_sync}
use Rattle.generator_front.specs.Generated.{IsGenerated}
use Rattle.mmt_top.specs.GeneratorRuns.{EndsAs, generator_lines}
use Rattle.mmt_top.proofs.GeneratedLines.{printed, unprinted}
use Rattle.mmt_top.proofs.generator_session.finish.Goals as goal

pub installs-installs-requires-send-S-Answer : goal.installs-installs-requires-send-S-Answer
installs-installs-requires-send-S-Answer g c κs = param_send _ _ (arg_send _ yes _ verdict_row_send)

pub installs-installs-requires-sync-S-Answer : goal.installs-installs-requires-sync-S-Answer
installs-installs-requires-sync-S-Answer g c κs = param_sync _ _ (arg_sync _ yes _ verdict_row_sync)

pub returns-in-Ok-clause-ends : goal.returns-in-Ok-clause-ends
returns-in-Ok-clause-ends g c =
    printed c.print.result c.args.workers c.args.front.now.start c.args.front.now.modules c.args.front.now.edits (g.K.Sink.taken c.args.sink.now) (g.K.Sink.taken c.print.new.sink) c.in-Ok.counts c.args.board
    (subst (λ r. IsGenerated c.args.front.now.start c.args.front.now.modules c.args.front.now.edits r c.args.board) c.in-Ok.is c.requires)
    (subst (λ n. EndsAs c.print.result (g.K.Sink.taken c.args.sink.now) (g.K.Sink.taken c.print.new.sink) (generator_lines c.args.workers c.args.front.now.modules c.args.front.now.edits c.in-Ok.counts n)) c.installs-installs.ensures c.print.ensures.ends)

pub returns-in-Err-clause-ends : goal.returns-in-Err-clause-ends
returns-in-Err-clause-ends g c =
    unprinted c.args.workers c.args.front.now.start c.args.front.now.modules c.args.front.now.edits (g.K.Sink.taken c.args.sink.now) c.in-Err.field-0 c.args.board
    (subst (λ r. IsGenerated c.args.front.now.start c.args.front.now.modules c.args.front.now.edits r c.args.board) c.in-Err.is c.requires)
