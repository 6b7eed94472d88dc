use Rattle.std.proofs.Common.{refl, ◌∙◌}
use Rattle.text_meaning.specs.Tokens.{LeftBrace}
use Rattle.text_meaning.specs.Parsing.{Expect}
use Rattle.twelf_expressions.proofs.Moves.{stopped}
use Rattle.twelf_reader.proofs.heads.open_body.Goals as goal

pub returns-in_err-expect-clause-goes : goal.returns-in_err-expect-clause-goes
returns-in_err-expect-clause-goes c = λ inside h.
    stopped c.from_residual.result _ _ c.from_residual.ensures.1 refl (c.in_err-expect.ensures.goes (Expect LeftBrace inside) refl)

pub returns-in_err-expect-2-clause-goes : goal.returns-in_err-expect-2-clause-goes
returns-in_err-expect-2-clause-goes c = λ inside h.
    stopped c.from_residual-in_err-expect-2.result _ _ c.from_residual-in_err-expect-2.ensures.1 (c.in_ok-expect.ensures.goes (Expect LeftBrace inside) refl) (c.in_err-expect-2.ensures.goes inside h)

pub returns-clause-goes : goal.returns-clause-goes
returns-clause-goes c = λ inside h. c.in_ok-expect.ensures.goes (Expect LeftBrace inside) refl ∙ c.in_ok-expect-2.ensures.goes inside h
