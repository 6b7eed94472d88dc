use Rattle.std.proofs.Common.{ap, sym, ◌∙◌}
use Rattle.lf_meaning.specs.Substitution.{substitute_family}
use Rattle.term_trees.specs.Readings.{read_simple, read_object, read_family}
use Rattle.hereditary_subst.proofs.Heads.{substituted_family}
use Rattle.hereditary_subst.proofs.substitution.+subst_fam.Goals as goal

pub returns-in_ok-subst_spine-in-At : goal.returns-in_ok-subst_spine-in-At
returns-in_ok-subst_spine-in-At t c =
    let value = read_object c.args.value.now in
    let simple = read_simple c.args.simple.now in
    substituted_family value simple c.args.at c.in-At.spine c.in_ok-subst_spine-in-At.field-0 c.in_ok-subst_spine-in-At.ensures c.in_ok-copy-in-At.field-0 c.in-At.head c.in_ok-copy-in-At.ensures
    ∙ sym (ap (λ a. substitute_family value simple c.args.at (read_family a)) c.in-At.is)
