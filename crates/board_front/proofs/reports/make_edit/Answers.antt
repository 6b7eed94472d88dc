use Rattle.std.proofs.Common.{◌≡◌, IfOk, inr, sym, ◌∙◌, subst}
use Rattle.edit_log_meaning.specs.Append.{append_answer}
use Rattle.edit_log_meaning.specs.Append as answers
use Rattle.printing_meaning.specs.EditLines.{edit_word}
use Rattle.board_meaning.specs.Events.{log_of}
use Rattle.edit_log.specs.Readings.{read_edit}
use Rattle.board_front.proofs.EditAnswers.{answered_edits, answered_may, answered_word, front_answer, made_edits, made_is, unmade_log}
use Rattle.board_front.proofs.reports.make_edit.Goals as goal

pub returns-then-not-is_made-clause-edits : goal.returns-then-not-is_made-clause-edits
returns-then-not-is_made-clause-edits g c =
    answered_edits (λ word. word.now) c.args.log.now c.args.pass.now.seen c.edit-answer.new.pass.seen (read_edit c.args.edit) c.made_word-word.result.now c.answer_word.result c.edit-answer.result
    c.edit-answer.ensures.goes c.answer_word.ensures.word

pub returns-then-not-is_made-clause-log : goal.returns-then-not-is_made-clause-log
returns-then-not-is_made-clause-log g c =
    unmade_log (λ word. word.now) c.args.log.now c.args.pass.now.seen c.edit-answer.new.pass.seen (read_edit c.args.edit) c.made_word-word.result.now c.answer_word.result c.edit-answer.result
    (sym c.is_made.ensures ∙ c.if-not-is_made.true) c.requires.front c.edit-answer.ensures.answer c.answer_word.ensures.word

pub returns-then-not-is_made-clause-word : goal.returns-then-not-is_made-clause-word
returns-then-not-is_made-clause-word g c =
    subst (λ (means : answers.Edited). IfOk c.answer_word.result (λ word. word.now ≡ edit_word (read_edit c.args.edit) means)) (front_answer c.args.log.now c.args.pass.now.seen (read_edit c.args.edit) c.requires.front)
    (answered_word (λ word. word.now) (read_edit c.args.edit) c.edit-answer.result (append_answer (log_of c.args.pass.now.seen) (read_edit c.args.edit)) c.made_word-word.result.now c.answer_word.result
    c.edit-answer.ensures.answer c.made_word-word.ensures c.answer_word.ensures.word)

pub returns-then-not-is_made-clause-so_far : goal.returns-then-not-is_made-clause-so_far
returns-then-not-is_made-clause-so_far g c =
    answered_may (λ word. word.now) c.args.log.now c.args.pass.now.seen c.edit-answer.new.pass.seen (read_edit c.args.edit) c.made_word-word.result.now c.answer_word.result c.edit-answer.result c.edit-answer.ensures.goes

pub returns-in-Ok-append-clause-edits : goal.returns-in-Ok-append-clause-edits
returns-in-Ok-append-clause-edits g c =
    made_edits c.args.pass.now.seen c.edit-answer.new.pass.seen (read_edit c.args.edit) c.edit-answer.result (sym c.is_made.ensures ∙ c.if-not-is_made.false) c.edit-answer.ensures.goes

pub returns-in-Ok-append-clause-word : goal.returns-in-Ok-append-clause-word
returns-in-Ok-append-clause-word g c =
    subst (λ (means : answers.Edited). c.made_word-word.result.now ≡ edit_word (read_edit c.args.edit) means) (front_answer c.args.log.now c.args.pass.now.seen (read_edit c.args.edit) c.requires.front)
    (c.made_word-word.ensures
    ∙ made_is (read_edit c.args.edit) c.edit-answer.result (append_answer (log_of c.args.pass.now.seen) (read_edit c.args.edit)) (sym c.is_made.ensures ∙ c.if-not-is_made.false) c.edit-answer.ensures.answer)

pub returns-in-Err-clause-so_far : goal.returns-in-Err-clause-so_far
returns-in-Err-clause-so_far g c =
    inr (made_edits c.args.pass.now.seen c.edit-answer.new.pass.seen (read_edit c.args.edit) c.edit-answer.result (sym c.is_made.ensures ∙ c.if-not-is_made.false) c.edit-answer.ensures.goes)
