use Rattle.std.proofs.Common.{◌≡◌, ◌++◌}
use Rattle.lf_meaning.specs.Terms.{domain_count}
use Rattle.eta_laws.specs.LongTermLaws.{domain_variables}
use Rattle.term_trees.specs.Readings.{read_kind, read_objects}
use Rattle.hereditary_subst.proofs.long_forms.with_domain_variables.Given as goal

-- the variables of the domains that are left are those of the rest of the kind
abbrev pub invariant-loop-current : goal.invariant-loop-current
invariant-loop-current l =
    (l.index ≡ domain_count (read_kind l.current))
    × (read_objects l.all.items ++ domain_variables (read_kind l.current) ≡ read_objects l.initial.all.items ++ domain_variables (read_kind l.kind))
