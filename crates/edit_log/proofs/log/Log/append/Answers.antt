use Rattle.std.proofs.Common.{◌≡◌, ℕ, refl, sym, ap, ◌∙◌}
use Rattle.edit_log_meaning.specs.Log as logs
use Rattle.edit_log_meaning.specs.Append.{append_answer, appended}
use Rattle.edit_log.specs.declared.answers.Edited.{Edited}
use Rattle.edit_log.specs.declared.answers.Edited.TheVariants.{Made, Same, Absent}
use Rattle.edit_log.specs.Readings.{read_edit, read_edited}
use Rattle.edit_log.proofs.Answering.{made_next, made_appended, same_appended, absent_appended}
use Rattle.edit_log.proofs.log.Log.append.Goals as goal

pub make-requires : goal.make-requires
make-requires c = made_next c.args.self.now _ c.in-Made.field-0 (c.in_ok-answer.ensures.answer ∙ ap read_edited c.in-Made.is)

pub returns-in_ok-make-clause-log : goal.returns-in_ok-make-clause-log
returns-in_ok-make-clause-log c = c.in_ok-make.ensures.ok ∙ sym (made_appended c.args.self.now _ c.in-Made.field-0 (c.in_ok-answer.ensures.answer ∙ ap read_edited c.in-Made.is))

unmade : (log : logs.Log) (e : logs.Edit) (answer : Edited) → append_answer log e ≡ read_edited answer → ((v : ℕ) → answer ≡ Made v → ⊥) → log ≡ appended log e
unmade log e (Made v) h n = absurd (n v refl)
unmade log e (Same v) h n = sym (same_appended log e v h)
unmade log e (Absent v) h n = sym (absent_appended log e v h)

pub returns-in_default : goal.returns-in_default
returns-in_default c = record { answer = c.in_ok-answer.ensures.answer; log = unmade c.args.self.now (read_edit c.args.edit) c.in_ok-answer.answer c.in_ok-answer.ensures.answer c.in_default.not-Made; unchanged = tt }
