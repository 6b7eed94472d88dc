use Rattle.std.proofs.Common.{◌≡◌, sym, subst}
use Rattle.std.specs.Prelude.{IfSome, IsNone}
use denote.Exit.{yes}
use denote.Param.Send.{arg_send, arg_sync, param_send, param_sync}
use Rattle.board_front.proofs.Subject.{verdict_row_send, verdict_row_sync}
use Rattle.text_meaning.specs.Dependencies.{dependencies}
use Rattle.worker_crew.specs.Leading.{WasLed}
use Rattle.generator_front.specs.Generated.{IsGenerated}
use Rattle.mmt_top.proofs.GeneratedLines.{nothing_generated_there, was_generated}
use Rattle.mmt_top.proofs.generator_session.generate_on.Goals as goal

pub lead-led-requires-send-S-Answer : goal.lead-led-requires-send-S-Answer
lead-led-requires-send-S-Answer g c κs within = param_send _ _ (arg_send _ yes _ verdict_row_send)

pub lead-led-requires-sync-S-Answer : goal.lead-led-requires-sync-S-Answer
lead-led-requires-sync-S-Answer g c κs within = param_sync _ _ (arg_sync _ yes _ verdict_row_sync)

pub finish-requires : goal.finish-requires
finish-requires g c =
    was_generated c.args.front.now.start c.args.front.now.modules c.args.front.now.edits c.in-Some.counted c.lead-led.result.board
    (subst (λ end. IfSome end (λ counted. WasLed dependencies (IsGenerated c.args.front.now.start c.args.front.now.modules c.args.front.now.edits counted) c.lead-led.result.board)) c.in-Some.is c.lead-led.ensures.led)

pub returns-in-None-clause-ends : goal.returns-in-None-clause-ends
returns-in-None-clause-ends g c =
    nothing_generated_there c.unbegun.result.status c.args.workers c.args.front.now.start c.args.front.now.modules c.args.front.now.edits (g.K.Sink.taken c.args.sink.now) c.unbegun.result.board c.unbegun.ensures.status c.unbegun.ensures.board
