use Rattle.std.proofs.Common.{◌+◌, refl, sym, ◌∙◌, subst}
use Rattle.text_meaning.specs.Tokens.{AssignSign, ColonSign}
use Rattle.twelf_lexer.specs.declared.sign.Sign.TheVariants as signs
use Rattle.twelf_lexer.specs.Pieces.{IsStep}
use Rattle.twelf_lexer.proofs.StepLemmas as steps
use Rattle.twelf_lexer.proofs.Marks.{is_token}
use Rattle.twelf_lexer.proofs.step.colon_step.Goals as goal

pub returns-then-starts_with : goal.returns-then-starts_with
returns-then-starts_with c =
    subst (IsStep c.args.text.now c.args.at) (sym c.token.ensures)
    (is_token c.args.text.now c.args.at (c.args.at + 1 + 1) signs.Assign AssignSign (record { kind = λ text from to. refl; parts = λ text from to. tt; more = refl })
    (steps.assign_step c.args.text.now c.args.at c.requires.utf8 c.requires.at c.requires.colon (sym c.starts_with.ensures ∙ c.if-starts_with.true)))

pub returns : goal.returns
returns c =
    subst (IsStep c.args.text.now c.args.at) (sym c.token-2.ensures)
    (is_token c.args.text.now c.args.at (c.args.at + 1) signs.Colon ColonSign (record { kind = λ text from to. refl; parts = λ text from to. tt; more = refl })
    (steps.colon_step c.args.text.now c.args.at c.requires.utf8 c.requires.at c.requires.colon (sym c.starts_with.ensures ∙ c.if-starts_with.false)))
