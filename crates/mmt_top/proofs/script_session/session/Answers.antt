use denote.Exit.{yes}
use denote.Param.Send.{arg_send, arg_sync, param_send, param_sync}
use Rattle.board_front.proofs.Subject.{verdict_row_send, verdict_row_sync}
use Rattle.mmt_outside.proofs.Bytes.{ReadPrefix-none}
use Rattle.run_status.proofs.Taking.{TookOn-none}
use Rattle.mmt_top.proofs.Led.{nothing_said, nothing_written, says_backs, says_edits, says_left, says_output, says_took}
use Rattle.std.specs.Prelude.{None}
use Rattle.command_words_meaning.specs.WordLists.{Play}
use Rattle.mmt_top.proofs.ToldTyping.{tells_typed}
use Rattle.mmt_top.proofs.script_session.session.Goals as goal

pub new-requires-send-S-Answer : goal.new-requires-send-S-Answer
new-requires-send-S-Answer g c κs = param_send _ _ (arg_send _ yes _ verdict_row_send)

pub new-requires-sync-S-Answer : goal.new-requires-sync-S-Answer
new-requires-sync-S-Answer g c κs = param_sync _ _ (arg_sync _ yes _ verdict_row_sync)

pub returns-in_default-clause-output : goal.returns-in_default-clause-output
returns-in_default-clause-output g c = nothing_written (g.K.Sink.taken c.args.sink.now) (g.S.Source.left c.args.source.now)

pub returns-in_default-clause-edits : goal.returns-in_default-clause-edits
returns-in_default-clause-edits g c = nothing_said (g.S.Source.left c.args.source.now)

pub returns-in_default-clause-backs : goal.returns-in_default-clause-backs
returns-in_default-clause-backs g c = nothing_said (g.S.Source.left c.args.source.now)

pub returns-clause-output : goal.returns-clause-output
returns-clause-output g c =
    says_output c.play_on.result.status (g.S.Source.left c.args.source.now) (g.S.Source.left c.play_on.new.source) (g.S.Source.faults c.args.source.now) (g.S.Source.faults c.play_on.new.source) (g.K.Sink.taken c.args.sink.now) (g.K.Sink.taken c.play_on.new.sink) (g.K.Sink.faults c.args.sink.now) (g.K.Sink.faults c.play_on.new.sink) c.play_on.result.board
    c.play_on.ensures.some c.play_on.ensures.led

pub returns-clause-edits : goal.returns-clause-edits
returns-clause-edits g c =
    says_edits c.play_on.result.status (g.S.Source.left c.args.source.now) (g.S.Source.left c.play_on.new.source) (g.S.Source.faults c.args.source.now) (g.S.Source.faults c.play_on.new.source) (g.K.Sink.taken c.args.sink.now) (g.K.Sink.taken c.play_on.new.sink) (g.K.Sink.faults c.args.sink.now) (g.K.Sink.faults c.play_on.new.sink) c.play_on.result.board
    c.play_on.ensures.some c.play_on.ensures.led

pub returns-clause-backs : goal.returns-clause-backs
returns-clause-backs g c =
    says_backs c.play_on.result.status (g.S.Source.left c.args.source.now) (g.S.Source.left c.play_on.new.source) (g.S.Source.faults c.args.source.now) (g.S.Source.faults c.play_on.new.source) (g.K.Sink.taken c.args.sink.now) (g.K.Sink.taken c.play_on.new.sink) (g.K.Sink.faults c.args.sink.now) (g.K.Sink.faults c.play_on.new.sink) c.play_on.result.board
    c.play_on.ensures.some c.play_on.ensures.led

pub returns-in_default-clause-left : goal.returns-in_default-clause-left
returns-in_default-clause-left g c = ReadPrefix-none (g.S.Source.left c.args.source.now)

pub returns-clause-left : goal.returns-clause-left
returns-clause-left g c =
    says_left c.play_on.result.status (g.S.Source.left c.args.source.now) (g.S.Source.left c.play_on.new.source) (g.S.Source.faults c.args.source.now) (g.S.Source.faults c.play_on.new.source) (g.K.Sink.taken c.args.sink.now) (g.K.Sink.taken c.play_on.new.sink) (g.K.Sink.faults c.args.sink.now) (g.K.Sink.faults c.play_on.new.sink) c.play_on.result.board
    c.play_on.ensures.some c.play_on.ensures.led

pub returns-in_default-clause-typed : goal.returns-in_default-clause-typed
returns-in_default-clause-typed g c = tells_typed Play (g.S.Source.left c.args.source.now) None

pub returns-clause-typed : goal.returns-clause-typed
returns-clause-typed g c = tells_typed Play (g.S.Source.left c.args.source.now) None

pub returns-in_default-clause-took : goal.returns-in_default-clause-took
returns-in_default-clause-took g c = TookOn-none (g.K.Sink.taken c.args.sink.now)

pub returns-clause-took : goal.returns-clause-took
returns-clause-took g c =
    says_took c.play_on.result.status (g.S.Source.left c.args.source.now) (g.S.Source.left c.play_on.new.source) (g.S.Source.faults c.args.source.now) (g.S.Source.faults c.play_on.new.source) (g.K.Sink.taken c.args.sink.now) (g.K.Sink.taken c.play_on.new.sink) (g.K.Sink.faults c.args.sink.now) (g.K.Sink.faults c.play_on.new.sink) c.play_on.result.board
    c.play_on.ensures.some c.play_on.ensures.led
