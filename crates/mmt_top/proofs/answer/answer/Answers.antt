use Rattle.std.proofs.Common.{List, ℕ, sym, subst}
use Rattle.std.specs.Prelude.{IfSome}
use Rattle.edit_log_meaning.specs.Log as edits
use Rattle.run_meaning.specs.ScriptCommands.{EditCommand, CarryCommand}
use Rattle.script_reader.specs.Commands.{read_command}
use Rattle.script_reader.specs.declared.command.Command.{Command}
use Rattle.mmt_top.specs.Answered.{Answers, IsAnswered}
use Rattle.mmt_top.proofs.Spoken.{blank_answered, carry_answers, check_answers, edit_answers, edit_legal, flat_answers, log_answers, report_answers}
use Rattle.mmt_top.proofs.answer.answer.Goals as goal

pub returns-in_ok-text-in-Put-clause-answers : goal.returns-in_ok-text-in-Put-clause-answers
returns-in_ok-text-in-Put-clause-answers g c =
    subst (λ (command : Command). IfSome (read_command command) (λ spoken. Answers spoken c.args.log.now c.edit_lines.new.log c.args.pass.now.seen c.edit_lines.new.pass.seen c.edit_lines.result)) (sym c.in-Put.is)
    (subst (λ (text : List ℕ). Answers (EditCommand (edits.Put c.in-Put.name text)) c.args.log.now c.edit_lines.new.log c.args.pass.now.seen c.edit_lines.new.pass.seen c.edit_lines.result) c.in_ok-text-in-Put.ensures
    (edit_answers (edits.Put c.in-Put.name c.in_ok-text-in-Put.text) c.args.log.now c.edit_lines.new.log c.args.pass.now.seen c.edit_lines.new.pass.seen c.edit_lines.result c.edit_lines.ensures.edits c.edit_lines.ensures.log c.edit_lines.ensures.line c.edit_lines.ensures.so_far))

pub returns-in-Drop-clause-answers : goal.returns-in-Drop-clause-answers
returns-in-Drop-clause-answers g c =
    subst (λ (command : Command). IfSome (read_command command) (λ spoken. Answers spoken c.args.log.now c.edit_lines-in-Drop.new.log c.args.pass.now.seen c.edit_lines-in-Drop.new.pass.seen c.edit_lines-in-Drop.result)) (sym c.in-Drop.is)
    (edit_answers (edits.Drop c.in-Drop.name) c.args.log.now c.edit_lines-in-Drop.new.log c.args.pass.now.seen c.edit_lines-in-Drop.new.pass.seen c.edit_lines-in-Drop.result c.edit_lines-in-Drop.ensures.edits c.edit_lines-in-Drop.ensures.log c.edit_lines-in-Drop.ensures.line c.edit_lines-in-Drop.ensures.so_far)

pub returns-in-Drop-clause-legal : goal.returns-in-Drop-clause-legal
returns-in-Drop-clause-legal g c =
    edit_legal (edits.Drop c.in-Drop.name) c.args.pass.now.seen c.edit_lines-in-Drop.new.pass.seen c.edit_lines-in-Drop.result c.edit_lines-in-Drop.ensures.edits c.edit_lines-in-Drop.ensures.so_far

pub returns-in-Report-clause-answers : goal.returns-in-Report-clause-answers
returns-in-Report-clause-answers g c =
    subst (λ (command : Command). IfSome (read_command command) (λ spoken. Answers spoken c.args.log.now c.args.log.now c.args.pass.now.seen c.report_lines.new.pass.seen c.report_lines.result)) (sym c.in-Report.is)
    (report_answers c.args.log.now c.args.pass.now.seen c.report_lines.new.pass.seen c.requires.front c.in-Report.name c.report_lines.result c.report_lines.ensures.stays c.report_lines.ensures.line c.report_lines.ensures.stands)

pub returns-in-Flat-clause-answers : goal.returns-in-Flat-clause-answers
returns-in-Flat-clause-answers g c =
    subst (λ (command : Command). IfSome (read_command command) (λ spoken. Answers spoken c.args.log.now c.args.log.now c.args.pass.now.seen c.flat_lines.new.pass.seen c.flat_lines.result)) (sym c.in-Flat.is)
    (flat_answers c.args.log.now c.args.pass.now.seen c.flat_lines.new.pass.seen c.requires.front c.in-Flat.name c.flat_lines.result c.flat_lines.ensures.stays c.flat_lines.ensures.lines c.flat_lines.ensures.stands)

pub returns-in-Check-clause-answers : goal.returns-in-Check-clause-answers
returns-in-Check-clause-answers g c =
    subst (λ (command : Command). IfSome (read_command command) (λ spoken. Answers spoken c.args.log.now c.args.log.now c.args.pass.now.seen c.check_lines.new.pass.seen c.check_lines.result)) (sym c.in-Check.is)
    (check_answers c.args.log.now c.args.pass.now.seen c.check_lines.new.pass.seen c.requires.front c.check_lines.result c.check_lines.ensures.stays c.check_lines.ensures.lines c.check_lines.ensures.stand)

pub returns-in-Carry-clause-answers : goal.returns-in-Carry-clause-answers
returns-in-Carry-clause-answers g c =
    subst (λ (command : Command). IfSome (read_command command) (λ spoken. Answers spoken c.args.log.now c.args.log.now c.args.pass.now.seen c.carry_lines.new.pass.seen c.carry_lines.result)) (sym c.in-Carry.is)
    (subst (λ (text : List ℕ). Answers (CarryCommand c.in-Carry.view text) c.args.log.now c.args.log.now c.args.pass.now.seen c.carry_lines.new.pass.seen c.carry_lines.result) c.as_slice.ensures
    (carry_answers c.args.log.now c.args.pass.now.seen c.carry_lines.new.pass.seen c.requires.front c.in-Carry.view c.as_slice.result.now c.carry_lines.result c.carry_lines.ensures.stays c.carry_lines.ensures.line c.carry_lines.ensures.stands))

pub returns-in-Log-clause-answers : goal.returns-in-Log-clause-answers
returns-in-Log-clause-answers g c =
    subst (λ (command : Command). IfSome (read_command command) (λ spoken. Answers spoken c.args.log.now c.args.log.now c.args.pass.now.seen c.args.pass.now.seen c.log_text.result)) (sym c.in-Log.is)
    (log_answers c.args.log.now c.args.pass.now.seen c.requires.front c.log_text.result c.log_text.ensures)

pub returns-in-Blank-clause-answers : goal.returns-in-Blank-clause-answers
returns-in-Blank-clause-answers g c =
    subst (λ (command : Command). IfSome (read_command command) (λ spoken. IsAnswered spoken c.args.log.now c.args.log.now c.args.pass.now.seen c.args.pass.now.seen c.new-in-Blank.result)) (sym c.in-Blank.is)
    (blank_answered c.args.log.now c.args.pass.now.seen c.requires.front c.new-in-Blank.result c.new-in-Blank.ensures)

pub returns-in-End-clause-answers : goal.returns-in-End-clause-answers
returns-in-End-clause-answers g c =
    subst (λ (command : Command). IfSome (read_command command) (λ spoken. IsAnswered spoken c.args.log.now c.args.log.now c.args.pass.now.seen c.args.pass.now.seen c.new-in-End.result)) (sym c.in-End.is)
    (tt)
