use Rattle.std.proofs.Common.{refl, ◌∙◌}
use Rattle.text_meaning.specs.Parsing.{ExpectName}
use Rattle.twelf_expressions.proofs.Moves.{stopped}
use Rattle.twelf_reader.proofs.heads.name_behind.Goals as goal

pub returns-in_err-expect-clause-goes : goal.returns-in_err-expect-clause-goes
returns-in_err-expect-clause-goes c = λ f h.
    stopped c.from_residual.result _ _ c.from_residual.ensures.1 refl (c.in_err-expect.ensures.goes (ExpectName f) refl)

pub returns-in_err-name-clause-goes : goal.returns-in_err-name-clause-goes
returns-in_err-name-clause-goes c = λ f h.
    stopped c.from_residual-in_err-name.result _ _ c.from_residual-in_err-name.ensures.1 (c.in_ok-expect.ensures.goes (ExpectName f) refl) (c.in_err-name.ensures.goes f h)

pub returns-clause-goes : goal.returns-clause-goes
returns-clause-goes c = λ f h. c.in_ok-expect.ensures.goes (ExpectName f) refl ∙ c.in_ok-name.ensures.goes f h
