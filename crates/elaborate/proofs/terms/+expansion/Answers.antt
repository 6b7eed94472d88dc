use Rattle.std.proofs.Common.{refl, ap, ap₂, sym, ◌∙◌, arith}
use Rattle.std.proofs.lemmas.Result.{err_from_is_err_and}
use Rattle.elaborate_meaning.specs.Locals.{with_local}
use Rattle.elaborate_meaning.specs.Expansion.{expand_object}
use Rattle.term_trees.specs.Readings.{read_family, read_object}
use Rattle.mmt_syntax.specs.Readings.{read_arguments, read_binder, read_expr, expressions_of}
use Rattle.elaborate.specs.Contexts.{locals_of, scope_of}
use Rattle.elaborate.specs.HeadStates.{read_level}
use Rattle.elaborate.proofs.ExpansionSteps.{is_broken, same_fault, object_moved, lambda_mismatch, lambda_domain_fault, lambda_body_fault, lambda_stands, argument_fault, argument_stands, all_taken, same_answer, same_begin, applied_begins, applied_family_begins, object_type, object_pi, object_arrow, object_back, object_name, object_app, head_type, head_pi, head_arrow, head_back, head_lambda, head_name, function_fault, function_begins, family_type, family_lambda, family_pi, family_arrow, family_back, family_name, family_app}
use Rattle.mmt_syntax.proofs.Nodes.{args_size, app_size, pi_size, arrow_size, back_size, lambda_size, element_below, read_app, read_pi, read_arrow, read_back}
use Rattle.elaborate.proofs.HeadsStand.{begun}
use Rattle.elaborate.proofs.terms.+expansion.Goals as goal

pub applied-returns : goal.applied-returns
applied-returns t c =
    applied_begins (scope_of c.args.context.now) (locals_of c.args.context.now) c.args.expr.now (read_family c.args.family.now) c.in_ok-head.head c.object_at.result c.in_ok-head.ensures c.object_at.ensures

pub applied_family-returns : goal.applied_family-returns
applied_family-returns t c =
    applied_family_begins (scope_of c.args.context.now) (locals_of c.args.context.now) c.args.expr.now c.in_ok-head.head c.family_at_type.result c.in_ok-head.ensures c.family_at_type.ensures

pub applied_family-family_at_type-requires : goal.applied_family-family_at_type-requires
applied_family-family_at_type-requires t c = begun c.in_ok-head.head _ c.in_ok-head.ensures

pub object-returns-in-Ty : goal.object-returns-in-Ty
object-returns-in-Ty t c =
    is_broken c.broken.result _ _ _ c.broken.ensures (object_type (scope_of c.args.context.now) (locals_of c.args.context.now) c.args.expr.now (read_family c.args.family.now) c.in-Ty.is)

pub object-returns-in-Pi : goal.object-returns-in-Pi
object-returns-in-Pi t c =
    is_broken c.broken-in-Pi.result _ _ _ c.broken-in-Pi.ensures (object_pi (scope_of c.args.context.now) (locals_of c.args.context.now) c.args.expr.now (read_family c.args.family.now) c.in-Pi.name c.in-Pi.dom c.in-Pi.body c.in-Pi.is)

pub object-returns-in-Arrow : goal.object-returns-in-Arrow
object-returns-in-Arrow t c =
    is_broken c.broken-in-Arrow.result _ _ _ c.broken-in-Arrow.ensures (object_arrow (scope_of c.args.context.now) (locals_of c.args.context.now) c.args.expr.now (read_family c.args.family.now) c.in-Arrow.dom c.in-Arrow.body c.in-Arrow.is)

pub object-returns-in-Back : goal.object-returns-in-Back
object-returns-in-Back t c =
    is_broken c.broken-in-Back.result _ _ _ c.broken-in-Back.ensures (object_back (scope_of c.args.context.now) (locals_of c.args.context.now) c.args.expr.now (read_family c.args.family.now) c.in-Back.body c.in-Back.dom c.in-Back.is)

pub head-returns-in-Ty : goal.head-returns-in-Ty
head-returns-in-Ty t c =
    is_broken c.broken-in-Ty.result _ _ _ c.broken-in-Ty.ensures (head_type (scope_of c.args.context.now) (locals_of c.args.context.now) (read_level c.args.level) c.args.expr.now c.in-Ty.is)

pub head-returns-in-Pi : goal.head-returns-in-Pi
head-returns-in-Pi t c =
    is_broken c.broken-in-Pi.result _ _ _ c.broken-in-Pi.ensures (head_pi (scope_of c.args.context.now) (locals_of c.args.context.now) (read_level c.args.level) c.args.expr.now c.in-Pi.name c.in-Pi.dom c.in-Pi.body c.in-Pi.is)

pub head-returns-in-Arrow : goal.head-returns-in-Arrow
head-returns-in-Arrow t c =
    is_broken c.broken-in-Arrow.result _ _ _ c.broken-in-Arrow.ensures (head_arrow (scope_of c.args.context.now) (locals_of c.args.context.now) (read_level c.args.level) c.args.expr.now c.in-Arrow.dom c.in-Arrow.body c.in-Arrow.is)

pub head-returns-in-Back : goal.head-returns-in-Back
head-returns-in-Back t c =
    is_broken c.broken-in-Back.result _ _ _ c.broken-in-Back.ensures (head_back (scope_of c.args.context.now) (locals_of c.args.context.now) (read_level c.args.level) c.args.expr.now c.in-Back.body c.in-Back.dom c.in-Back.is)

pub head-returns-in-Lam : goal.head-returns-in-Lam
head-returns-in-Lam t c =
    is_broken c.broken.result _ _ _ c.broken.ensures (head_lambda (scope_of c.args.context.now) (locals_of c.args.context.now) (read_level c.args.level) c.args.expr.now c.in-Lam.name c.in-Lam.dom c.in-Lam.body c.in-Lam.is)

pub head-returns-in-Name : goal.head-returns-in-Name
head-returns-in-Name t c =
    same_begin c.name_head.result _ _ (head_name (scope_of c.args.context.now) (locals_of c.args.context.now) (read_level c.args.level) c.args.expr.now c.in-Name.path c.in-Name.is) c.name_head.ensures

pub head-returns-in_err-first-in-App : goal.head-returns-in_err-first-in-App
head-returns-in_err-first-in-App t c =
    let p = err_from_is_err_and c.from_residual.result c.from_residual.ensures.1 in
    rw (p.1, p.2) (function_fault (scope_of c.args.context.now) (locals_of c.args.context.now) (read_level c.args.level) c.args.expr.now c.in-App.function c.in-App.args c.deref.result.now c.in-App.is c.deref.ensures c.in_err-first-in-App.field-0.0 c.in_err-first-in-App.ensures)

pub head-returns-in_ok-first-in-App : goal.head-returns-in_ok-first-in-App
head-returns-in_ok-first-in-App t c =
    function_begins (scope_of c.args.context.now) (locals_of c.args.context.now) (read_level c.args.level) c.args.expr.now c.in-App.function c.in-App.args c.deref.result.now c.in-App.is c.deref.ensures c.in_ok-first-in-App.first c.as_slice.result.now c.with_arguments.result c.in_ok-first-in-App.ensures c.as_slice.ensures c.with_arguments.ensures

pub family-returns-in-Ty : goal.family-returns-in-Ty
family-returns-in-Ty t c =
    is_broken c.broken.result _ _ _ c.broken.ensures (family_type (scope_of c.args.context.now) (locals_of c.args.context.now) c.args.expr.now c.in-Ty.is)

pub family-returns-in-Lam : goal.family-returns-in-Lam
family-returns-in-Lam t c =
    is_broken c.broken-in-Lam.result _ _ _ c.broken-in-Lam.ensures (family_lambda (scope_of c.args.context.now) (locals_of c.args.context.now) c.args.expr.now c.in-Lam.name c.in-Lam.dom c.in-Lam.body c.in-Lam.is)

pub family-returns-in-Pi : goal.family-returns-in-Pi
family-returns-in-Pi t c =
    same_answer read_family c.product.result _ _ (family_pi (scope_of c.args.context.now) (locals_of c.args.context.now) c.args.expr.now c.in-Pi.name c.in-Pi.dom c.in-Pi.body c.deref.result.now c.deref-in-Pi.result.now _ c.in-Pi.is c.deref.ensures c.deref-in-Pi.ensures c.name_of.ensures) c.product.ensures

pub family-returns-in-Arrow : goal.family-returns-in-Arrow
family-returns-in-Arrow t c =
    same_answer read_family c.product-in-Arrow.result _ _ (family_arrow (scope_of c.args.context.now) (locals_of c.args.context.now) c.args.expr.now c.in-Arrow.dom c.in-Arrow.body c.deref-in-Arrow.result.now c.deref-in-Arrow-2.result.now c.in-Arrow.is c.deref-in-Arrow.ensures c.deref-in-Arrow-2.ensures) c.product-in-Arrow.ensures

pub family-returns-in-Back : goal.family-returns-in-Back
family-returns-in-Back t c =
    same_answer read_family c.product-in-Back.result _ _ (family_back (scope_of c.args.context.now) (locals_of c.args.context.now) c.args.expr.now c.in-Back.body c.in-Back.dom c.deref-in-Back.result.now c.deref-in-Back-2.result.now c.in-Back.is c.deref-in-Back.ensures c.deref-in-Back-2.ensures) c.product-in-Back.ensures

pub family-returns-in-Name : goal.family-returns-in-Name
family-returns-in-Name t c =
    same_answer read_family c.applied_family.result _ _ (family_name (scope_of c.args.context.now) (locals_of c.args.context.now) c.args.expr.now c.in-Name.field-0 c.in-Name.is) c.applied_family.ensures

pub family-returns-in-App : goal.family-returns-in-App
family-returns-in-App t c =
    same_answer read_family c.applied_family-in-App.result _ _ (family_app (scope_of c.args.context.now) (locals_of c.args.context.now) c.args.expr.now c.in-App.head c.in-App.args c.in-App.is) c.applied_family-in-App.ensures

pub object-returns-in-Name : goal.object-returns-in-Name
object-returns-in-Name t c =
    same_answer read_object c.applied.result _ _ (object_name (scope_of c.args.context.now) (locals_of c.args.context.now) c.args.expr.now (read_family c.args.family.now) c.in-Name.field-0 c.in-Name.is) c.applied.ensures

pub object-returns-in-App : goal.object-returns-in-App
object-returns-in-App t c =
    same_answer read_object c.applied-in-App.result _ _ (object_app (scope_of c.args.context.now) (locals_of c.args.context.now) c.args.expr.now (read_family c.args.family.now) c.in-App.head c.in-App.args c.in-App.is) c.applied-in-App.ensures

-- ---- what falls from call to call

pub family-product-requires : goal.family-product-requires
family-product-requires t c =
    let part = pi_size (read_expr c.args.expr.now) _ (read_binder c.in-Pi.name) (read_expr c.deref.result.now) (read_expr c.deref-in-Pi.result.now) (read_pi c.args.expr.now c.in-Pi.name c.in-Pi.dom c.in-Pi.body c.deref.result.now c.deref-in-Pi.result.now c.in-Pi.is c.deref.ensures c.deref-in-Pi.ensures) in
    let measured = c.decreases in
    (omega arith, tt)

pub family-product-requires-in-Arrow : goal.family-product-requires-in-Arrow
family-product-requires-in-Arrow t c =
    let part = arrow_size (read_expr c.args.expr.now) _ (read_expr c.deref-in-Arrow.result.now) (read_expr c.deref-in-Arrow-2.result.now) (read_arrow c.args.expr.now c.in-Arrow.dom c.in-Arrow.body c.deref-in-Arrow.result.now c.deref-in-Arrow-2.result.now c.in-Arrow.is c.deref-in-Arrow.ensures c.deref-in-Arrow-2.ensures) in
    let measured = c.decreases in
    (omega arith, tt)

pub family-product-requires-in-Back : goal.family-product-requires-in-Back
family-product-requires-in-Back t c =
    let part = back_size (read_expr c.args.expr.now) _ (read_expr c.deref-in-Back-2.result.now) (read_expr c.deref-in-Back.result.now) (read_back c.args.expr.now c.in-Back.body c.in-Back.dom c.deref-in-Back-2.result.now c.deref-in-Back.result.now c.in-Back.is c.deref-in-Back-2.ensures c.deref-in-Back.ensures) in
    let measured = c.decreases in
    (omega arith, tt)

pub head-head-requires : goal.head-head-requires
head-head-requires t c =
    let part = app_size (read_expr c.args.expr.now) _ (read_expr c.deref.result.now) (read_arguments (expressions_of c.in-App.args)) (read_app c.args.expr.now c.in-App.function c.in-App.args c.deref.result.now c.in-App.is c.deref.ensures) in
    let measured = c.decreases in
    (omega arith, tt)

pub head-with_arguments-requires : goal.head-with_arguments-requires
head-with_arguments-requires t c =
    let part = app_size (read_expr c.args.expr.now) _ (read_expr c.deref.result.now) (read_arguments (expressions_of c.in-App.args)) (read_app c.args.expr.now c.in-App.function c.in-App.args c.deref.result.now c.in-App.is c.deref.ensures) in
    let slice = ap (λ xs. args_size (read_arguments xs)) c.as_slice.ensures in
    let measured = c.decreases in
    (omega arith, tt)

pub object-written_domain-requires : goal.object-written_domain-requires
object-written_domain-requires t c =
    let part = lambda_size c.args.expr.now c.in-Lam.name c.in-Lam.dom c.in-Lam.body c.in-Lam.body.value c.in-Lam.is refl in
    let measured = c.decreases in
    (omega arith, tt)

pub object-object-requires : goal.object-object-requires
object-object-requires t c =
    let part = lambda_size c.args.expr.now c.in-Lam.name c.in-Lam.dom c.in-Lam.body c.deref-in-Pi-family-2.result.now c.in-Lam.is c.deref-in-Pi-family-2.ensures in
    let measured = c.decreases in
    (omega arith, tt)

pub with_arguments-with_argument-requires : goal.with_arguments-with_argument-requires
with_arguments-with_argument-requires t c =
    let below = element_below c.args.args.now c.loop-argument.argument-index c.argument-item.result c.argument-item.is c.loop-argument-test.true in
    let measured = c.decreases in
    (omega arith, tt)

-- ---- λ

pub object-returns-in-At : goal.object-returns-in-At
object-returns-in-At t c =
    is_broken c.broken-in-At.result _ _ _ c.broken-in-At.ensures (lambda_mismatch (scope_of c.args.context.now) (locals_of c.args.context.now) c.args.expr.now c.in-Lam.name c.in-Lam.dom c.in-Lam.body c.in-Lam.is c.args.family.now _ _ c.in-At.is)

pub object-returns-in_err-written_domain-in-Pi-family : goal.object-returns-in_err-written_domain-in-Pi-family
object-returns-in_err-written_domain-in-Pi-family t c =
    let p = err_from_is_err_and c.from_residual.result c.from_residual.ensures.1 in
    rw (p.1, p.2) (lambda_domain_fault (scope_of c.args.context.now) (locals_of c.args.context.now) c.args.expr.now c.in-Lam.name c.in-Lam.dom c.in-Lam.body c.in-Lam.is c.args.family.now c.in-Pi-family.domain c.in-Pi-family.codomain c.deref.result.now c.in-Pi-family.codomain.value c.in-Lam.body.value c.in-Pi-family.is c.deref.ensures refl refl c.in_err-written_domain-in-Pi-family.field-0.0 c.in_err-written_domain-in-Pi-family.ensures)

pub object-returns-in_err-body-in-Pi-family : goal.object-returns-in_err-body-in-Pi-family
object-returns-in_err-body-in-Pi-family t c =
    let p = err_from_is_err_and c.from_residual-in_err-body-in-Pi-family.result c.from_residual-in_err-body-in-Pi-family.ensures.1 in
    let locals = c.under.ensures.locals ∙ ap₂ (λ n a. with_local n (read_family a) (locals_of c.args.context.now)) c.name_of.ensures (c.deref-in-Pi-family.ensures ∙ sym c.deref.ensures) in
    let moved = object_moved (scope_of c.args.context.now) (scope_of c.under.result) (with_local (read_binder c.in-Lam.name) (read_family c.deref.result.now) (locals_of c.args.context.now)) (locals_of c.under.result) (read_expr c.deref-in-Pi-family-2.result.now) (read_family c.deref-in-Pi-family-3.result.now) c.under.ensures.scope locals in
    let fault = c.in_err-body-in-Pi-family.field-0.0 in
    rw (p.1, p.2) (lambda_body_fault (scope_of c.args.context.now) (locals_of c.args.context.now) c.args.expr.now c.in-Lam.name c.in-Lam.dom c.in-Lam.body c.in-Lam.is c.args.family.now c.in-Pi-family.domain c.in-Pi-family.codomain c.deref.result.now c.deref-in-Pi-family-3.result.now c.deref-in-Pi-family-2.result.now c.in-Pi-family.is c.deref.ensures c.deref-in-Pi-family-3.ensures c.deref-in-Pi-family-2.ensures c.in_ok-written_domain-in-Pi-family.ensures fault (same_fault fault _ _ (sym moved) c.in_err-body-in-Pi-family.ensures))

pub object-returns-in_ok-new-in-Pi-family : goal.object-returns-in_ok-new-in-Pi-family
object-returns-in_ok-new-in-Pi-family t c =
    let locals = c.under.ensures.locals ∙ ap₂ (λ n a. with_local n (read_family a) (locals_of c.args.context.now)) c.name_of.ensures (c.deref-in-Pi-family.ensures ∙ sym c.deref.ensures) in
    let moved = object_moved (scope_of c.args.context.now) (scope_of c.under.result) (with_local (read_binder c.in-Lam.name) (read_family c.deref.result.now) (locals_of c.args.context.now)) (locals_of c.under.result) (read_expr c.deref-in-Pi-family-2.result.now) (read_family c.deref-in-Pi-family-3.result.now) c.under.ensures.scope locals in
    lambda_stands (scope_of c.args.context.now) (locals_of c.args.context.now) c.args.expr.now c.in-Lam.name c.in-Lam.dom c.in-Lam.body c.in-Lam.is c.args.family.now c.in-Pi-family.domain c.in-Pi-family.codomain c.deref.result.now c.deref-in-Pi-family-3.result.now c.deref-in-Pi-family-2.result.now c.in-Pi-family.is c.deref.ensures c.deref-in-Pi-family-3.ensures c.deref-in-Pi-family-2.ensures c.in_ok-written_domain-in-Pi-family.ensures c.in_ok-body-in-Pi-family.body c.in_ok-new-in-Pi-family.field-0 c.in_ok-new-in-Pi-family.ensures.ok (sym moved ∙ c.in_ok-body-in-Pi-family.ensures)

-- ---- arguments

pub with_arguments-loop-argument-init : goal.with_arguments-loop-argument-init
unfolding expand_object
with_arguments-loop-argument-init t c begun stands = (begun, refl, c.in_ok-roomy.ensures begun stands)

pub with_arguments-returns-in_err-head : goal.with_arguments-returns-in_err-head
with_arguments-returns-in_err-head t c begun stands =
    let p = err_from_is_err_and c.from_residual-in_err-head.result c.from_residual-in_err-head.ensures.1 in
    let now = c.loop-argument.invariant begun stands in
    let fault = c.in_err-head.field-0.0 in
    rw (p.1, p.2) (argument_fault (scope_of c.args.context.now) (locals_of c.args.context.now) c.args.args.now c.loop-argument.argument-index c.argument-item.result c.loop-argument-test.true c.argument-item.is begun now.0 now.1 fault (c.in_err-head.ensures now.0 now.2))

pub with_arguments-loop-argument-preserved : goal.with_arguments-loop-argument-preserved
with_arguments-loop-argument-preserved t c begun stands =
    let now = c.loop-argument.invariant begun stands in
    argument_stands (scope_of c.args.context.now) (locals_of c.args.context.now) c.args.args.now c.loop-argument.argument-index c.argument-item.result c.loop-argument-test.true c.argument-item.is begun now.0 now.1 c.in_ok-head.head (c.in_ok-head.ensures now.0 now.2)

pub with_arguments-returns : goal.with_arguments-returns
with_arguments-returns t c begun stands =
    let now = c.loop-argument.invariant begun stands in
    all_taken (scope_of c.args.context.now) (locals_of c.args.context.now) c.args.args.now c.loop-argument.argument-index (omega arith) begun now.0 c.loop-argument.head now.1 now.2
