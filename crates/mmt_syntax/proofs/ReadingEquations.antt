-- The equations of the readings, of a value that is made.
use Rattle.std.proofs.Common.{◌≡◌, List, Some, None, map, sym, ap, ◌∙◌}
use Rattle.std.specs.declared.boxed.Box.{Box}
use Rattle.std.specs.declared.alloc.Global.{Global}
use Rattle.text_meaning.specs.Tokens as tokens
use Rattle.text_meaning.specs.Trees as trees
use Rattle.base_types.specs.declared.path.Path.{Path}
use Rattle.mmt_syntax.specs.Readings.{read_span, read_binder, as_arguments, read_node_layer, read_expr_layer, read_exprs_layer, read_node, read_expr, expressions_of, read_arguments}
use Rattle.mmt_syntax.specs.declared.expr.Binder.{Binder}
use Rattle.mmt_syntax.specs.declared.expr.Expr.{Expr}
use Rattle.mmt_syntax.specs.declared.expr.Exprs.{Exprs}
use Rattle.mmt_syntax.specs.declared.expr.Node.TheOpen as node
use Rattle.mmt_syntax.specs.declared.expr.Node.TheVariants as nodes
use Rattle.mmt_syntax.specs.declared.expr.Node.TheFolds.{fold-Exprs, fold-roll-Node, fold_out-Expr, fold_out-Exprs}

-- An expression stands for its node at its span.
pub read_expr_is : (e : Expr) → read_expr e ≡ read_node e.node (read_span e.span)
read_expr_is e = fold_out-Expr (tokens.Span → trees.Expr) trees.Expr (List trees.Expr) read_node_layer read_expr_layer read_exprs_layer e

-- What the fold gives of a row are its expressions.
read_exprs : (es : Exprs) → fold-Exprs (tokens.Span → trees.Expr) trees.Expr (List trees.Expr) read_node_layer read_expr_layer read_exprs_layer es ≡ map read_expr (expressions_of es)
read_exprs es = fold_out-Exprs (tokens.Span → trees.Expr) trees.Expr (List trees.Expr) read_node_layer read_expr_layer read_exprs_layer es

pub read_node_ty : (s : tokens.Span) → read_node nodes.Ty s ≡ trees.TypeExpr s
read_node_ty s = ap (λ n. read_node n s) (sym nodes.rolls-Ty) ∙ ap (λ f. f s) (fold-roll-Node (tokens.Span → trees.Expr) trees.Expr (List trees.Expr) read_node_layer read_expr_layer read_exprs_layer node.Ty)

pub read_node_name : (p : Path) (s : tokens.Span) → read_node (nodes.Name p) s ≡ trees.NameExpr s p
read_node_name p s = ap (λ n. read_node n s) (sym (nodes.rolls-Name p)) ∙ ap (λ f. f s) (fold-roll-Node (tokens.Span → trees.Expr) trees.Expr (List trees.Expr) read_node_layer read_expr_layer read_exprs_layer (node.Name p))

pub read_node_app : (h : Box Expr Global) (es : Exprs) (s : tokens.Span) → read_node (nodes.App h es) s ≡ trees.AppExpr s (read_expr h.value) (read_arguments (expressions_of es))
read_node_app h es s =
    ap (λ n. read_node n s) (sym (nodes.rolls-App h es)) ∙ ap (λ f. f s) (fold-roll-Node (tokens.Span → trees.Expr) trees.Expr (List trees.Expr) read_node_layer read_expr_layer read_exprs_layer (node.App h es))
    ∙ ap (λ xs. trees.AppExpr s (read_expr h.value) (as_arguments xs)) (read_exprs es)

pub read_node_pi : (x : Binder) (a b : Box Expr Global) (s : tokens.Span) → read_node (nodes.Pi x a b) s ≡ trees.PiExpr s (read_binder x) (read_expr a.value) (read_expr b.value)
read_node_pi x a b s = ap (λ n. read_node n s) (sym (nodes.rolls-Pi x a b)) ∙ ap (λ f. f s) (fold-roll-Node (tokens.Span → trees.Expr) trees.Expr (List trees.Expr) read_node_layer read_expr_layer read_exprs_layer (node.Pi x a b))

pub read_node_lam : (x : Binder) (b : Box Expr Global) (s : tokens.Span) → read_node (nodes.Lam x None b) s ≡ trees.LamExpr s (read_binder x) (read_expr b.value)
read_node_lam x b s = ap (λ n. read_node n s) (sym (nodes.rolls-Lam x None b)) ∙ ap (λ f. f s) (fold-roll-Node (tokens.Span → trees.Expr) trees.Expr (List trees.Expr) read_node_layer read_expr_layer read_exprs_layer (node.Lam x None b))

pub read_node_typed_lam : (x : Binder) (a b : Box Expr Global) (s : tokens.Span) → read_node (nodes.Lam x (Some a) b) s ≡ trees.TypedLamExpr s (read_binder x) (read_expr a.value) (read_expr b.value)
read_node_typed_lam x a b s =
    ap (λ n. read_node n s) (sym (nodes.rolls-Lam x (Some a) b)) ∙ ap (λ f. f s) (fold-roll-Node (tokens.Span → trees.Expr) trees.Expr (List trees.Expr) read_node_layer read_expr_layer read_exprs_layer (node.Lam x (Some a) b))

pub read_node_arrow : (a b : Box Expr Global) (s : tokens.Span) → read_node (nodes.Arrow a b) s ≡ trees.ArrowExpr s (read_expr a.value) (read_expr b.value)
read_node_arrow a b s = ap (λ n. read_node n s) (sym (nodes.rolls-Arrow a b)) ∙ ap (λ f. f s) (fold-roll-Node (tokens.Span → trees.Expr) trees.Expr (List trees.Expr) read_node_layer read_expr_layer read_exprs_layer (node.Arrow a b))

pub read_node_back : (b a : Box Expr Global) (s : tokens.Span) → read_node (nodes.Back b a) s ≡ trees.BackExpr s (read_expr b.value) (read_expr a.value)
read_node_back b a s = ap (λ n. read_node n s) (sym (nodes.rolls-Back b a)) ∙ ap (λ f. f s) (fold-roll-Node (tokens.Span → trees.Expr) trees.Expr (List trees.Expr) read_node_layer read_expr_layer read_exprs_layer (node.Back b a))

-- All of them, for a tactic.
pub ruleset reading_equations = (read_expr_is, read_node_ty, read_node_name, read_node_app, read_node_pi, read_node_lam, read_node_typed_lam, read_node_arrow, read_node_back)
