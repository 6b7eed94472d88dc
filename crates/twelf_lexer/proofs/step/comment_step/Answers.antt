use Rattle.std.proofs.Common.{sym, subst}
use Rattle.twelf_lexer.specs.Pieces.{IsStep}
use Rattle.twelf_lexer.proofs.StepLemmas as steps
use Rattle.twelf_lexer.proofs.step.comment_step.Goals as goal

pub returns-in-Some : goal.returns-in-Some
returns-in-Some c = subst (IsStep c.args.text.now c.args.at) (sym c.nothing.ensures) (steps.comment_step c.args.text.now c.args.at c.in-Some.to c.requires.utf8 c.requires.at c.requires.percent c.requires.brace c.in-Some.ensures)

pub returns-in-None : goal.returns-in-None
returns-in-None c = steps.open_step c.args.text.now c.args.at c.requires.at c.requires.percent c.requires.brace c.in-None.ensures
