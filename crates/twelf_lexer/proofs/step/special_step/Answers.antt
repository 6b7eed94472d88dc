use Rattle.std.proofs.Common.{◌+◌, refl, sym, subst}
use Rattle.text_meaning.specs.Tokens.{DotSign, Stray}
use Rattle.twelf_lexer.specs.declared.sign.Sign.TheVariants as signs
use Rattle.twelf_lexer.specs.Pieces.{IsStep}
use Rattle.twelf_lexer.proofs.StepLemmas as steps
use Rattle.twelf_lexer.proofs.Marks.{is_token}
use Rattle.twelf_lexer.proofs.step.special_step.Goals as goal

pub returns-then-byte-eq46 : goal.returns-then-byte-eq46
returns-then-byte-eq46 c =
    subst (IsStep c.args.text.now c.args.at) (sym c.token.ensures)
    (is_token c.args.text.now c.args.at (c.args.at + 1) signs.Dot DotSign (record { kind = λ text from to. refl; parts = λ text from to. tt; more = refl }) (steps.dot_step c.args.text.now c.args.at c.requires.utf8 c.requires.at c.if-byte-eq46.true))

pub returns-in-Some : goal.returns-in-Some
returns-in-Some c =
    let text = c.args.text.now in
    let at = c.args.at in
    let b = c.in-Some.ensures in
    subst (IsStep text at) (sym c.token-in-Some.ensures) (is_token text at (at + 1) c.in-Some.sign b.0 b.2 (steps.bracket_byte_step text at b.0 c.requires.utf8 c.requires.at b.1))

pub returns-in-None : goal.returns-in-None
returns-in-None c =
    subst (IsStep c.args.text.now c.args.at) (sym c.token-in-None.ensures)
    (is_token c.args.text.now c.args.at (c.args.at + 1) signs.Stray Stray (record { kind = λ text from to. refl; parts = λ text from to. tt; more = refl })
    (steps.quote_step c.args.text.now c.args.at c.requires.utf8 c.requires.at c.requires.special c.if-byte-eq37.false c.if-byte-eq58.false c.if-byte-eq46.false c.in-None.ensures))
