use Rattle.std.proofs.Common.{◌+◌, refl, sym, ◌∙◌, subst}
use Rattle.text_meaning.specs.Tokens.{Stray}
use Rattle.twelf_lexer.specs.declared.sign.Sign.TheVariants as signs
use Rattle.twelf_lexer.specs.Pieces.{IsStep}
use Rattle.twelf_lexer.proofs.StepLemmas as steps
use Rattle.twelf_lexer.proofs.Marks.{is_token, is_word}
use Rattle.twelf_lexer.proofs.step.percent_step.Goals as goal

pub returns-then-begins_line_comment : goal.returns-then-begins_line_comment
returns-then-begins_line_comment c =
    subst (IsStep c.args.text.now c.args.at) (sym c.nothing.ensures) (steps.line_step c.args.text.now c.args.at c.line_end.result c.requires.at c.requires.percent (sym c.begins_line_comment.ensures ∙ c.if-begins_line_comment.true) c.line_end.ensures)

pub returns-then-starts_with-2 : goal.returns-then-starts_with-2
returns-then-starts_with-2 c = steps.mark_step c.args.text.now c.args.at c.requires.at c.requires.percent (sym c.starts_with-2.ensures ∙ c.if-starts_with-2.true)

pub returns-then-starts_run : goal.returns-then-starts_run
returns-then-starts_run c =
    let text = c.args.text.now in
    let at = c.args.at in
    let to = c.run_end-to.result in
    subst (IsStep text at) (sym c.token.ensures)
    (is_word text at to c.percent_word.result c.percent_word.ensures
    (steps.word_step text at to c.requires.at c.requires.percent (sym c.starts_run.ensures ∙ c.if-starts_run.true) c.run_end-to.ensures))

pub returns : goal.returns
returns c =
    subst (IsStep c.args.text.now c.args.at) (sym c.token-2.ensures)
    (is_token c.args.text.now c.args.at (c.args.at + 1) signs.Stray Stray (record { kind = λ text from to. refl; parts = λ text from to. tt; more = refl })
    (steps.stray_step c.args.text.now c.args.at c.requires.utf8 c.requires.at c.requires.percent (sym c.begins_line_comment.ensures ∙ c.if-begins_line_comment.false)
    (sym c.starts_with.ensures ∙ c.if-starts_with.false) (sym c.starts_with-2.ensures ∙ c.if-starts_with-2.false) (sym c.starts_run.ensures ∙ c.if-starts_run.false)))
