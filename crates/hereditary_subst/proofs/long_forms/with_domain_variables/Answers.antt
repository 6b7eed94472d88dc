use Rattle.std.proofs.Common.{◌≡◌, ◌++◌, ◌-◌, ap, ap₂, sym, ◌∙◌}
use Rattle.lf_meaning.specs.Terms.{Var, PiKind}
use Rattle.eta_meaning.specs.LongTerms.{eta}
use Rattle.eta_laws.specs.LongTermLaws.{domain_variables}
use Rattle.term_trees.specs.Readings.{read_family, read_kind, read_objects}
use Rattle.term_trees.proofs.ReadingEquations.{read_kind_pi}
use Rattle.hereditary_subst.proofs.LongForms.{kind_further}
use Rattle.hereditary_subst.proofs.long_forms.with_domain_variables.Goals as goal

pub loop-current-preserved : goal.loop-current-preserved
loop-current-preserved c =
    let current = read_kind c.loop-current.current.now in
    let domain = read_family c.deref.result.now in
    let is : current ≡ PiKind domain (read_kind c.deref-current.result.now) = ap read_kind c.in-Pi.is ∙ read_kind_pi c.in-Pi.domain c.in-Pi.body ∙ ap₂ PiKind (ap read_family (sym c.deref.ensures)) (ap read_kind (sym c.deref-current.ensures)) in
    let long = c.in_ok-long_variable.ensures ∙ ap (λ s. eta s (Var (c.loop-current.index - 1))) c.in_ok-simple.ensures in
    kind_further current domain (read_kind c.deref-current.result.now) c.loop-current.index c.loop-current.all.items c.push.new.self.items c.in_ok-long_variable.field-0 (read_objects c.args.arguments.items ++ domain_variables (read_kind c.args.kind.now))
    is c.loop-current.invariant.0 c.in_ok-push.ensures.items long c.loop-current.invariant.1
