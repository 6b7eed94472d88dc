use Rattle.std.proofs.Common.{sym, subst, ◌∙◌}
use Rattle.twelf_lexer.specs.Pieces.{IsStep}
use Rattle.twelf_lexer.proofs.StepLemmas as steps
use Rattle.twelf_lexer.proofs.step.step_at.Goals as goal

pub returns-then-is_white_space : goal.returns-then-is_white_space
returns-then-is_white_space c =
    subst (IsStep c.args.text.now c.args.at) (sym c.nothing.ensures) (steps.white_space_step c.args.text.now c.args.at c.requires.utf8 c.requires.at (sym c.is_white_space.ensures ∙ c.if-is_white_space.true))
