use Rattle.std.proofs.Common.{sym, ap}
use Rattle.printing_meaning.specs.PrintedTerms as printed
use Rattle.term_trees.specs.Readings.{read_head}
use Rattle.term_text.proofs.uses.is_variable.Goals as goal

pub returns-in-Var : goal.returns-in-Var
unfolding printed.object_uses
returns-in-Var c = sym (ap (λ h. printed.atomic_uses c.args.variable (read_head h)) c.in-Var.is)

pub returns-in-Con : goal.returns-in-Con
unfolding printed.object_uses
returns-in-Con c = sym (ap (λ h. printed.atomic_uses c.args.variable (read_head h)) c.in-Con.is)
