-- The span of an expression that is read.
use Rattle.std.proofs.Common.{◌≡◌, List, Some, None, refl, ap, ◌∙◌}
use Rattle.text_meaning.specs.Tokens as tokens
use Rattle.text_meaning.specs.Trees as trees
use Rattle.elaborate_meaning.specs.Expansion.{span_of}
use Rattle.mmt_syntax.specs.Readings.{read_span, read_node_layer, read_expr_layer, read_exprs_layer, read_expr}
use Rattle.mmt_syntax.specs.declared.expr.Expr.{Expr}
use Rattle.mmt_syntax.specs.declared.expr.Node.TheOpen as node
use Rattle.mmt_syntax.specs.declared.expr.Node.TheFolds.{fold_out-Node}
use Rattle.mmt_syntax.proofs.ReadingEquations.{read_expr_is}

span_layer : (n : node.Node-F (tokens.Span → trees.Expr) trees.Expr (List trees.Expr)) (s : tokens.Span) → span_of (read_node_layer n s) ≡ s
span_layer node.Ty s = refl
span_layer (node.Name p) s = refl
span_layer (node.App head args) s = refl
span_layer (node.Pi x a b) s = refl
span_layer (node.Lam x None b) s = refl
span_layer (node.Lam x (Some a) b) s = refl
span_layer (node.Arrow a b) s = refl
span_layer (node.Back b a) s = refl

pub span_is : (e : Expr) → span_of (read_expr e) ≡ read_span e.span
span_is e =
    ap span_of (read_expr_is e ∙ ap (λ f. f (read_span e.span)) (fold_out-Node (tokens.Span → trees.Expr) trees.Expr (List trees.Expr) read_node_layer read_expr_layer read_exprs_layer e.node))
    ∙ span_layer _ (read_span e.span)
