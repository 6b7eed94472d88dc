use Rattle.std.proofs.Common.{◌≡◌, ◌+◌, ◌*◌, ◌++◌}
use Rattle.term_trees.specs.Readings.{read_simple, read_objects}
use Rattle.hereditary_subst.specs.LongForms.{arity, arrow_variables}
use Rattle.hereditary_subst.proofs.long_forms.+long_forms.Given as goal

abbrev pub decreases-long_object : goal.decreases-long_object
decreases-long_object l = 3 * l.left

abbrev pub decreases-long_variable : goal.decreases-long_variable
decreases-long_variable l = 3 * l.left + 1

abbrev pub decreases-with_arrow_variables : goal.decreases-with_arrow_variables
decreases-with_arrow_variables l = 3 * l.left + 2

-- the variables of the domains that are left are those of the codomain
abbrev pub invariant-with_arrow_variables-loop-current : goal.invariant-with_arrow_variables-loop-current
invariant-with_arrow_variables-loop-current l =
    (l.index ≡ arity (read_simple l.current))
    × (read_objects l.all.items ++ arrow_variables (read_simple l.current) ≡ read_objects l.initial.all.items ++ arrow_variables (read_simple l.simple))
