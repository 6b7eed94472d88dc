use Rattle.std.proofs.Common.{refl, sym, ap₂, ◌∙◌}
use Rattle.std.proofs.lemmas.Result.{err_from_is_err_and}
use Rattle.elaborate_meaning.specs.Locals.{with_local}
use Rattle.term_trees.specs.Readings.{read_family, read_kind}
use Rattle.mmt_syntax.specs.Readings.{read_binder, read_expr}
use Rattle.elaborate.specs.Contexts.{locals_of, scope_of}
use Rattle.elaborate.proofs.ExpansionSteps.{is_broken, same_answer}
use Rattle.elaborate.proofs.KindSteps.{body_type, body_pi, body_arrow, body_back, body_name, body_app, body_mismatch, body_domain_fault, body_stands, body_moved}
use Rattle.elaborate.proofs.values.+family_body.Goals as goal

pub returns-in-Ty : goal.returns-in-Ty
returns-in-Ty t c = is_broken c.broken-in-Ty.result _ _ _ c.broken-in-Ty.ensures (body_type (scope_of c.args.context.now) (locals_of c.args.context.now) c.args.expr.now (read_kind c.args.kind.now) c.in-Ty.is)

pub returns-in-Pi : goal.returns-in-Pi
returns-in-Pi t c = is_broken c.broken-in-Pi.result _ _ _ c.broken-in-Pi.ensures (body_pi (scope_of c.args.context.now) (locals_of c.args.context.now) c.args.expr.now (read_kind c.args.kind.now) _ _ _ c.in-Pi.is)

pub returns-in-Arrow : goal.returns-in-Arrow
returns-in-Arrow t c = is_broken c.broken-in-Arrow.result _ _ _ c.broken-in-Arrow.ensures (body_arrow (scope_of c.args.context.now) (locals_of c.args.context.now) c.args.expr.now (read_kind c.args.kind.now) _ _ c.in-Arrow.is)

pub returns-in-Back : goal.returns-in-Back
returns-in-Back t c = is_broken c.broken-in-Back.result _ _ _ c.broken-in-Back.ensures (body_back (scope_of c.args.context.now) (locals_of c.args.context.now) c.args.expr.now (read_kind c.args.kind.now) _ _ c.in-Back.is)

pub returns-in-Name : goal.returns-in-Name
returns-in-Name t c = same_answer read_family c.atomic_body.result _ _ (body_name (scope_of c.args.context.now) (locals_of c.args.context.now) c.args.expr.now (read_kind c.args.kind.now) _ c.in-Name.is) c.atomic_body.ensures

pub returns-in-App : goal.returns-in-App
returns-in-App t c = same_answer read_family c.atomic_body-in-App.result _ _ (body_app (scope_of c.args.context.now) (locals_of c.args.context.now) c.args.expr.now (read_kind c.args.kind.now) _ _ c.in-App.is) c.atomic_body-in-App.ensures

pub returns-in-Ty-kind : goal.returns-in-Ty-kind
returns-in-Ty-kind t c = is_broken c.broken.result _ _ _ c.broken.ensures (body_mismatch (scope_of c.args.context.now) (locals_of c.args.context.now) c.args.expr.now c.in-Lam.name c.in-Lam.dom c.in-Lam.body c.in-Lam.is c.args.kind.now c.in-Ty-kind.is)

pub returns-in_err-written_domain-in-Pi-kind : goal.returns-in_err-written_domain-in-Pi-kind
returns-in_err-written_domain-in-Pi-kind t c =
    let p = err_from_is_err_and c.from_residual.result c.from_residual.ensures.1 in
    rw (p.1, p.2) (body_domain_fault (scope_of c.args.context.now) (locals_of c.args.context.now) c.args.expr.now c.in-Lam.name c.in-Lam.dom c.in-Lam.body c.in-Lam.is c.args.kind.now c.in-Pi-kind.domain c.in-Pi-kind.rest c.deref.result.now c.in-Pi-kind.rest.value c.in-Lam.body.value c.in-Pi-kind.is c.deref.ensures refl refl c.in_err-written_domain-in-Pi-kind.field-0.0 c.in_err-written_domain-in-Pi-kind.ensures)

pub returns-in_ok-written_domain-in-Pi-kind : goal.returns-in_ok-written_domain-in-Pi-kind
returns-in_ok-written_domain-in-Pi-kind t c =
    let locals = c.under.ensures.locals ∙ ap₂ (λ n a. with_local n (read_family a) (locals_of c.args.context.now)) c.name_of.ensures (c.deref-in-Pi-kind.ensures ∙ sym c.deref.ensures) in
    let moved = body_moved (scope_of c.args.context.now) (scope_of c.under.result) (with_local (read_binder c.in-Lam.name) (read_family c.deref.result.now) (locals_of c.args.context.now)) (locals_of c.under.result) (read_expr c.deref-in-Pi-kind-2.result.now) (read_kind c.deref-in-Pi-kind-3.result.now) c.under.ensures.scope locals in
    body_stands (scope_of c.args.context.now) (locals_of c.args.context.now) c.args.expr.now c.in-Lam.name c.in-Lam.dom c.in-Lam.body c.in-Lam.is c.args.kind.now c.in-Pi-kind.domain c.in-Pi-kind.rest c.deref.result.now c.deref-in-Pi-kind-3.result.now c.deref-in-Pi-kind-2.result.now c.in-Pi-kind.is c.deref.ensures c.deref-in-Pi-kind-3.ensures c.deref-in-Pi-kind-2.ensures c.family_body.result c.in_ok-written_domain-in-Pi-kind.ensures (same_answer read_family c.family_body.result _ _ (sym moved) c.family_body.ensures)
