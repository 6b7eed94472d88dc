use Rattle.std.proofs.Common.{◌≡◌, ◌+◌}
use Rattle.term_trees.specs.Readings.{read_simple}
use Rattle.hereditary_subst.specs.LongForms.{arity}
use Rattle.hereditary_subst.proofs.long_forms.arity.Given as goal

-- what was counted, and what is left
abbrev pub invariant-loop-current : goal.invariant-loop-current
invariant-loop-current l = l.count + arity (read_simple l.current) ≡ arity (read_simple l.simple)
