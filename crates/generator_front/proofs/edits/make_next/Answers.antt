use Rattle.std.proofs.Common.{sym, subst}
use Rattle.board_meaning.specs.Events.{log_of}
use Rattle.edit_log.specs.Readings.{read_edit}
use Rattle.script_reader.specs.Generating.{gave_one}
use Rattle.generator_front.specs.Generated.{IsLogOfGiven}
use Rattle.generator_front.proofs.GivenEdits.{begun_before, may_begin, one_given}
use Rattle.list_laws.proofs.Answers.{on_err}
use Rattle.generator_front.proofs.edits.make_next.Goals as goal

pub returns-in_err-edit-clause-begun : goal.returns-in_err-edit-clause-begun
returns-in_err-edit-clause-begun g c =
    on_err c.from_residual.result
    (begun_before c.args.generator.now (log_of c.args.pass.now.seen) (subst (IsLogOfGiven c.args.generator.now) c.requires.front.logged c.requires.given))

pub returns-in_err-make_edit-clause-begun : goal.returns-in_err-make_edit-clause-begun
returns-in_err-make_edit-clause-begun g c =
    on_err c.from_residual-in_err-make_edit.result
    (may_begin c.args.generator.now c.args.log.now (read_edit c.in_ok-edit.edit) c.args.pass.now.seen c.make_edit.new.pass.seen c.requires.front c.requires.given c.in_ok-edit.ensures.edit
    c.in_err-make_edit.ensures.so_far)

pub returns-clause-given : goal.returns-clause-given
returns-clause-given g c =
    subst (λ generating. IsLogOfGiven generating c.make_edit.new.log) (sym c.in_ok-edit.ensures.ok)
    (subst (IsLogOfGiven (gave_one c.args.generator.now)) (sym c.in_ok-make_edit.ensures.log)
    (one_given c.args.generator.now c.args.log.now (read_edit c.in_ok-edit.edit) c.requires.given c.in_ok-edit.ensures.edit))
