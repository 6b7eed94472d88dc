use Rattle.std.proofs.Common.{◌≡◌, ◌+◌}
use Rattle.lf_meaning.specs.Terms.{domain_count}
use Rattle.term_trees.specs.Readings.{read_kind}
use Rattle.hereditary_subst.proofs.long_forms.domain_count.Given as goal

-- what was counted, and what is left
abbrev pub invariant-loop-current : goal.invariant-loop-current
invariant-loop-current l = l.count + domain_count (read_kind l.current) ≡ domain_count (read_kind l.kind)
