use Rattle.std.proofs.Common.{◌≡◌, false, ap, subst}
use Rattle.std.specs.Prelude.{Err, IfSome, Some}
use Rattle.printing_meaning.specs.Lines.{lines_of}
use Rattle.run_meaning.specs.ScriptCommands as meant
use Rattle.script_reader.specs.Reading.{to_come}
use Rattle.script_reader.specs.Commands.{read_command}
use Rattle.script_reader.specs.Answers.{IsNext}
use Rattle.script_reader.specs.declared.command.Command.{Command}
use Rattle.mmt_top.proofs.Turns.{is_spoken, told_spoken, told_ended, told_faulted}
use Rattle.mmt_top.proofs.Outside.{source_unfailed}
use Rattle.mmt_top.proofs.front.turn.Goals as goal

pub returns-in-End-clause-tells : goal.returns-in-End-clause-tells
returns-in-End-clause-tells g c =
    told_ended c.finish.result c.args.script.now c.next_command.new.self (to_come c.args.script.now (g.S.Source.left c.args.source.now))
    (to_come c.next_command.new.self (g.S.Source.left c.next_command.new.source)) c.args.pass.now.seen (g.K.Sink.taken c.args.sink.now) (g.K.Sink.taken c.finish.new.sink)
    c.requires.fresh c.requires.front.legal
    (subst (λ (command : Command). IfSome (to_come c.args.script.now (g.S.Source.left c.args.source.now)) (λ bytes. c.args.script.now.is_spent ≡ false →
    IsNext (read_command command) (meant.next_of (lines_of bytes)) (lines_of bytes) (to_come c.next_command.new.self (g.S.Source.left c.next_command.new.source)) c.args.script.now.line c.next_command.new.self.line))
    c.in-End.is c.in-Ok.ensures.answer)
    c.in-Ok.ensures.told c.finish.ensures.end

pub returns-in_default-clause-tells : goal.returns-in_default-clause-tells
returns-in_default-clause-tells g c =
    told_spoken c.speak.result c.args.script.now c.next_command.new.self (to_come c.args.script.now (g.S.Source.left c.args.source.now))
    (to_come c.next_command.new.self (g.S.Source.left c.next_command.new.source)) (g.K.Sink.taken c.args.sink.now) (g.K.Sink.taken c.speak.new.sink)
    (read_command c.in-Ok.command) c.args.log.now c.speak.new.log c.args.pass.now.seen c.speak.new.pass.seen
    c.requires.fresh c.requires.front (is_spoken c.in-Ok.command c.in_default.not-End) c.in-Ok.ensures.answer c.in-Ok.ensures.told c.speak.ensures.spoken

pub returns-in-Err-clause-tells : goal.returns-in-Err-clause-tells
returns-in-Err-clause-tells g c =
    told_faulted c.in-Err.fault c.end_by.result c.args.script.now c.next_command.new.self (to_come c.args.script.now (g.S.Source.left c.args.source.now))
    (to_come c.next_command.new.self (g.S.Source.left c.next_command.new.source)) c.args.pass.now.seen (g.K.Sink.taken c.args.sink.now) (g.K.Sink.taken c.end_by.new.sink)
    c.requires.fresh c.requires.front.legal c.in-Err.ensures.answer c.end_by.ensures.end

pub returns-in-End-clause-source : goal.returns-in-End-clause-source
returns-in-End-clause-source g c =
    source_unfailed (Some c.finish.result) (g.S.Source.faults c.args.source.now) (g.S.Source.faults c.next_command.new.source) c.finish.ensures.read c.next_command.ensures.later

pub returns-in_default-clause-source : goal.returns-in_default-clause-source
returns-in_default-clause-source g c =
    source_unfailed c.speak.result (g.S.Source.faults c.args.source.now) (g.S.Source.faults c.next_command.new.source) c.speak.ensures.read c.next_command.ensures.later

pub returns-in-Err-clause-source : goal.returns-in-Err-clause-source
returns-in-Err-clause-source g c = record {
  read = λ e. c.in-Err.ensures.failed (ap Err (c.end_by.ensures.read e));
  later = c.next_command.ensures.later;
}
