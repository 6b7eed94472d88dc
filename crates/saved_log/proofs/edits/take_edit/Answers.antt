use Rattle.std.proofs.Common.{◌≡◌, ◌<◌, length, Err, ap, ◌∙◌, subst, arith}
use Rattle.std.proofs.lemmas.Bool.Decides.{nat_tests}
use Rattle.edit_log_meaning.specs.Append as answers
use Rattle.edit_log_meaning.specs.Append.{append_answer}
use Rattle.edit_log.specs.declared.answers.EditFault.{EditFault}
use Rattle.edit_log.specs.Readings.{read_edit, read_edited, IsAnswer}
use Rattle.saved_log.specs.Parts.{read_parts}
use Rattle.saved_log.proofs.ReadingGates.{no_gate, not_made, less, taken}
use Rattle.saved_log.proofs.edits.take_edit.Goals as goal

pub returns-then-is_empty-clause-wrong : goal.returns-then-is_empty-clause-wrong
returns-then-is_empty-clause-wrong c =
    let none : length c.in-Some.parts.rest.now ≡ 0 = grind (arith, nat_tests, c.is_empty.ensures, c.if-is_empty.true) in
    λ e. no_gate c.args.log.now c.args.bytes.now (read_parts c.in-Some.parts) c.in-Some.ensures.read none

pub overflow_sub-result : goal.overflow_sub-result
overflow_sub-result c = omega (arith, less c.args.bytes.now (read_parts c.in-Some.parts) c.in-Some.ensures.read)

pub returns-in-Ok-Made-clause-taken : goal.returns-in-Ok-Made-clause-taken
returns-in-Ok-Made-clause-taken c =
    let some : 0 < length c.in-Some.parts.rest.now = grind (arith, nat_tests, c.is_empty.ensures, c.if-is_empty.false) in
    taken c.args.bytes.now (read_parts c.in-Some.parts) (read_edit c.in_ok-edit.edit) c.args.log.now c.append.new.self c.in-Ok-Made.field-0-0 c.in-Some.ensures.read some c.in_ok-edit.ensures
    (c.in-Ok-Made.ensures.answer ∙ ap read_edited c.in-Ok-Made.field-0-is) c.in-Ok-Made.ensures.log c.in-Some.ensures.sized

pub returns-in-Ok-Same-clause-wrong : goal.returns-in-Ok-Same-clause-wrong
returns-in-Ok-Same-clause-wrong c = λ e.
    not_made c.args.log.now c.args.bytes.now (read_parts c.in-Some.parts) (read_edit c.in_ok-edit.edit) (answers.Same c.in-Ok-Same.field-0-0) c.in-Some.ensures.read c.in_ok-edit.ensures
    (c.in-Ok-Same.ensures.answer ∙ ap read_edited c.in-Ok-Same.field-0-is) (λ version made. cc)

pub returns-in-Ok-Absent-clause-wrong : goal.returns-in-Ok-Absent-clause-wrong
returns-in-Ok-Absent-clause-wrong c = λ e.
    not_made c.args.log.now c.args.bytes.now (read_parts c.in-Some.parts) (read_edit c.in_ok-edit.edit) (answers.Absent c.in-Ok-Absent.field-0-0) c.in-Some.ensures.read c.in_ok-edit.ensures
    (c.in-Ok-Absent.ensures.answer ∙ ap read_edited c.in-Ok-Absent.field-0-is) (λ version made. cc)

pub returns-in-Err-Full-clause-wrong : goal.returns-in-Err-Full-clause-wrong
returns-in-Err-Full-clause-wrong c = λ e.
    let answer = subst (λ (fault : EditFault). IsAnswer (Err fault) (append_answer c.args.log.now (read_edit c.in_ok-edit.edit))) c.in-Err-Full.field-0-is c.in-Err-Full.ensures.answer in
    not_made c.args.log.now c.args.bytes.now (read_parts c.in-Some.parts) (read_edit c.in_ok-edit.edit) answers.Full c.in-Some.ensures.read c.in_ok-edit.ensures answer (λ version made. cc)

pub returns-in-Err-TooLong-clause-wrong : goal.returns-in-Err-TooLong-clause-wrong
returns-in-Err-TooLong-clause-wrong c = λ e.
    let answer = subst (λ (fault : EditFault). IsAnswer (Err fault) (append_answer c.args.log.now (read_edit c.in_ok-edit.edit))) c.in-Err-TooLong.field-0-is c.in-Err-TooLong.ensures.answer in
    not_made c.args.log.now c.args.bytes.now (read_parts c.in-Some.parts) (read_edit c.in_ok-edit.edit) answers.TooLong c.in-Some.ensures.read c.in_ok-edit.ensures answer (λ version made. cc)

pub returns-in-Err-TooMany-clause-wrong : goal.returns-in-Err-TooMany-clause-wrong
returns-in-Err-TooMany-clause-wrong c = λ e.
    let answer = subst (λ (fault : EditFault). IsAnswer (Err fault) (append_answer c.args.log.now (read_edit c.in_ok-edit.edit))) c.in-Err-TooMany.field-0-is c.in-Err-TooMany.ensures.answer in
    not_made c.args.log.now c.args.bytes.now (read_parts c.in-Some.parts) (read_edit c.in_ok-edit.edit) answers.TooMany c.in-Some.ensures.read c.in_ok-edit.ensures answer (λ version made. cc)
