use Rattle.std.proofs.Common.{arith}
use Rattle.term_trees.specs.Readings.{read_kind}
use Rattle.mmt_syntax.specs.Readings.{read_binder, read_expr}
use Rattle.elaborate.specs.Contexts.{locals_of, scope_of}
use Rattle.elaborate.proofs.ExpansionSteps.{is_broken, same_answer}
use Rattle.elaborate.proofs.KindSteps.{kind_type, kind_pi, kind_arrow, kind_back, kind_name, kind_app, kind_lambda}
use Rattle.mmt_syntax.proofs.Nodes.{pi_size, arrow_size, back_size, read_pi, read_arrow, read_back}
use Rattle.elaborate.proofs.kinds.+kind_expansion.Goals as goal

pub kind-returns-in-Ty : goal.kind-returns-in-Ty
kind-returns-in-Ty t c = kind_type (scope_of c.args.context.now) (locals_of c.args.context.now) c.args.expr.now c.in-Ty.is

pub kind-returns-in-Pi : goal.kind-returns-in-Pi
kind-returns-in-Pi t c = same_answer read_kind c.product.result _ _ (kind_pi (scope_of c.args.context.now) (locals_of c.args.context.now) c.args.expr.now c.in-Pi.name c.in-Pi.dom c.in-Pi.body c.deref.result.now c.deref-in-Pi.result.now _ c.in-Pi.is c.deref.ensures c.deref-in-Pi.ensures c.name_of.ensures) c.product.ensures

pub kind-returns-in-Arrow : goal.kind-returns-in-Arrow
kind-returns-in-Arrow t c = same_answer read_kind c.product-in-Arrow.result _ _ (kind_arrow (scope_of c.args.context.now) (locals_of c.args.context.now) c.args.expr.now c.in-Arrow.dom c.in-Arrow.body c.deref-in-Arrow.result.now c.deref-in-Arrow-2.result.now c.in-Arrow.is c.deref-in-Arrow.ensures c.deref-in-Arrow-2.ensures) c.product-in-Arrow.ensures

pub kind-returns-in-Back : goal.kind-returns-in-Back
kind-returns-in-Back t c = same_answer read_kind c.product-in-Back.result _ _ (kind_back (scope_of c.args.context.now) (locals_of c.args.context.now) c.args.expr.now c.in-Back.body c.in-Back.dom c.deref-in-Back.result.now c.deref-in-Back-2.result.now c.in-Back.is c.deref-in-Back.ensures c.deref-in-Back-2.ensures) c.product-in-Back.ensures

pub kind-returns-in-Name : goal.kind-returns-in-Name
kind-returns-in-Name t c = is_broken c.broken.result _ _ _ c.broken.ensures (kind_name (scope_of c.args.context.now) (locals_of c.args.context.now) c.args.expr.now _ c.in-Name.is)

pub kind-returns-in-App : goal.kind-returns-in-App
kind-returns-in-App t c = is_broken c.broken-in-App.result _ _ _ c.broken-in-App.ensures (kind_app (scope_of c.args.context.now) (locals_of c.args.context.now) c.args.expr.now _ _ c.in-App.is)

pub kind-returns-in-Lam : goal.kind-returns-in-Lam
kind-returns-in-Lam t c = is_broken c.broken-in-Lam.result _ _ _ c.broken-in-Lam.ensures (kind_lambda (scope_of c.args.context.now) (locals_of c.args.context.now) c.args.expr.now _ _ _ c.in-Lam.is)

pub kind-product-requires : goal.kind-product-requires
kind-product-requires t c =
    let part = pi_size (read_expr c.args.expr.now) _ (read_binder c.in-Pi.name) (read_expr c.deref.result.now) (read_expr c.deref-in-Pi.result.now) (read_pi c.args.expr.now c.in-Pi.name c.in-Pi.dom c.in-Pi.body c.deref.result.now c.deref-in-Pi.result.now c.in-Pi.is c.deref.ensures c.deref-in-Pi.ensures) in
    let measured = c.decreases in
    (omega arith, tt)

pub kind-product-requires-in-Arrow : goal.kind-product-requires-in-Arrow
kind-product-requires-in-Arrow t c =
    let part = arrow_size (read_expr c.args.expr.now) _ (read_expr c.deref-in-Arrow.result.now) (read_expr c.deref-in-Arrow-2.result.now) (read_arrow c.args.expr.now c.in-Arrow.dom c.in-Arrow.body c.deref-in-Arrow.result.now c.deref-in-Arrow-2.result.now c.in-Arrow.is c.deref-in-Arrow.ensures c.deref-in-Arrow-2.ensures) in
    let measured = c.decreases in
    (omega arith, tt)

pub kind-product-requires-in-Back : goal.kind-product-requires-in-Back
kind-product-requires-in-Back t c =
    let part = back_size (read_expr c.args.expr.now) _ (read_expr c.deref-in-Back-2.result.now) (read_expr c.deref-in-Back.result.now) (read_back c.args.expr.now c.in-Back.body c.in-Back.dom c.deref-in-Back-2.result.now c.deref-in-Back.result.now c.in-Back.is c.deref-in-Back-2.ensures c.deref-in-Back.ensures) in
    let measured = c.decreases in
    (omega arith, tt)
