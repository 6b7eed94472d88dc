use Rattle.std.proofs.Common.{Result, Ok, ap, ◌∙◌, subst}
use Rattle.edit_log_meaning.specs.Append.{append_answer}
use Rattle.edit_log_laws.proofs.Limits.{made_short}
use Rattle.edit_log.specs.Readings.{read_edit, IsAnswer}
use Rattle.edit_log.specs.declared.answers.Edited.{Edited}
use Rattle.edit_log.specs.declared.answers.EditFault.{EditFault}
use Rattle.board_front.proofs.reading.read_before.Goals as goal

pub put_dependencies-requires : goal.put_dependencies-requires
put_dependencies-requires c =
    made_short c.args.log.now (read_edit c.args.edit.now) c.in-Ok-Made.field-0-0
    (subst (λ (r : Result Edited EditFault). IsAnswer r (append_answer c.args.log.now (read_edit c.args.edit.now))) (c.in-Ok-Made.is ∙ ap Ok c.in-Ok-Made.field-0-is) c.answer.ensures.answer)
