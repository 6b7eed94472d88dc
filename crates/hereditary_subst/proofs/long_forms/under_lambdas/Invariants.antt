use Rattle.std.proofs.Common.{◌≡◌}
use Rattle.term_trees.specs.Readings.{read_object}
use Rattle.hereditary_subst.specs.LongForms.{under_lambdas}
use Rattle.hereditary_subst.proofs.long_forms.under_lambdas.Given as goal

abbrev pub invariant-loop : goal.invariant-loop
invariant-loop l = read_object l.object ≡ under_lambdas l.counter (read_object l.fn.body)
