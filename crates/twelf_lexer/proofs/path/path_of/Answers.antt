use Rattle.std.proofs.Common.{◌≡◌, ℕ, List, ap, ◌∙◌}
use Rattle.std.specs.Prelude.{IfOk, Result, Ok, Err}
use Rattle.text_meaning.specs.Tokens.{Ident}
use Rattle.twelf_lexer.specs.Rows.{IsRow}
use Rattle.twelf_lexer.specs.Lexemes.{sign_kind}
use Rattle.twelf_lexer.specs.declared.sign.Sign.{Sign}
use Rattle.twelf_lexer.specs.declared.sign.Sign.TheVariants as signs
use Rattle.twelf_lexer.proofs.RowSteps.{row_runs}
use Rattle.twelf_lexer.proofs.path.path_of.Goals as goal

several : {E : Type 0} (text : List ℕ) (from to : ℕ) (sign : Sign) (r : Result (List (List ℕ)) E) → sign ≡ signs.Path → IfOk r (λ p. IsRow text from to p) → IfOk r (λ p. sign_kind text from to sign ≡ Ident p)
several text from to sign (Ok p) e h = ap (sign_kind text from to) e ∙ ap Ident (row_runs text from to p h)
several text from to sign (Err f) e h = tt

pub returns-in-Path : goal.returns-in-Path
returns-in-Path c = several c.args.text.now c.args.lexeme.span.from c.args.lexeme.span.to c.args.lexeme.sign c.path.result c.in-Path.is c.path.ensures.row
