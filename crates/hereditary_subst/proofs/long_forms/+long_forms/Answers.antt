use Rattle.std.proofs.Common.{◌≡◌, ◌++◌, IfOk, ap, ap₂, sym, subst, ◌∙◌}
use Rattle.lf_meaning.specs.Terms as terms
use Rattle.term_trees.specs.Readings.{read_head, read_object, read_objects, read_simple}
use Rattle.term_trees.proofs.ReadingEquations.{read_simple_arrow, read_object_at}
use Rattle.hereditary_subst.specs.LongForms.{under_lambdas, arrow_variables}
use Rattle.hereditary_subst.proofs.LongForms.{arrow_further, variable_built}
use Rattle.hereditary_subst.proofs.long_forms.+long_forms.Goals as goal

pub with_arrow_variables-loop-current-preserved : goal.with_arrow_variables-loop-current-preserved
with_arrow_variables-loop-current-preserved t c =
    let current = read_simple c.loop-current.current.now in
    let domain = read_simple c.deref.result.now in
    let codomain = read_simple c.deref-current.result.now in
    let is : current ≡ terms.Arrow domain codomain = ap read_simple c.in-Arrow.is ∙ read_simple_arrow c.in-Arrow.domain c.in-Arrow.codomain ∙ ap₂ terms.Arrow (ap read_simple (sym c.deref.ensures)) (ap read_simple (sym c.deref-current.ensures)) in
    arrow_further current domain codomain c.loop-current.index c.loop-current.all.items c.push.new.self.items c.in_ok-variable.variable (read_objects c.args.arguments.items ++ arrow_variables (read_simple c.args.simple.now))
    is c.loop-current.invariant.0 c.in_ok-push.ensures.items c.in_ok-variable.ensures c.loop-current.invariant.1

pub long_object-returns : goal.long_object-returns
long_object-returns t c =
    let spine = c.in_ok-spine.spine in
    let head = c.args.head in
    let made = read_object_at head spine ∙ ap (λ items. terms.At (terms.apply_all (read_head head) (read_objects items))) c.in_ok-spine.ensures ∙ ap (λ ms. terms.At (terms.apply_all (read_head head) ms)) c.in_ok-all.ensures in
    subst (λ (body : terms.Object). IfOk c.under_lambdas.result (λ m. read_object m ≡ under_lambdas c.args.count body)) made c.under_lambdas.ensures

pub long_variable-returns : goal.long_variable-returns
long_variable-returns t c =
    let built = variable_built (read_simple c.args.simple.now) c.args.index c.in_ok-count.count c.in_ok-raised.raised (read_objects c.new.result.items) c.in_ok-count.ensures c.in_ok-raised.ensures (ap read_objects c.new.ensures.items) in
    subst (λ (whole : terms.Object). IfOk c.long_object.result (λ m. read_object m ≡ whole)) built c.long_object.ensures
