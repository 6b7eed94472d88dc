use Rattle.std.proofs.Common.{refl, ◌∙◌}
use Rattle.text_meaning.specs.Tokens.{EndSign}
use Rattle.text_meaning.specs.Parsing.{Expect, Whole}
use Rattle.twelf_expressions.proofs.Moves.{stopped}
use Rattle.twelf_reader.proofs.heads.end_text.Goals as goal

pub returns-in_err-expect : goal.returns-in_err-expect
returns-in_err-expect c = λ tree.
    stopped c.from_residual.result _ _ c.from_residual.ensures.1 refl (c.in_err-expect.ensures.goes (Expect EndSign (Whole tree)) refl)

pub returns-in_err-finish : goal.returns-in_err-finish
returns-in_err-finish c = λ tree.
    stopped c.from_residual-in_err-finish.result _ _ c.from_residual-in_err-finish.ensures.1 (c.in_ok-expect.ensures.goes (Expect EndSign (Whole tree)) refl) (c.in_err-finish.ensures tree)

pub returns : goal.returns
returns c = λ tree. c.in_ok-expect.ensures.goes (Expect EndSign (Whole tree)) refl ∙ c.in_ok-finish.ensures tree
