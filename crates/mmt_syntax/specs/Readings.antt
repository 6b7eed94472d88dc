-- What the values of this crate stand for: the trees that texts spell, read off them. Boxes and rows are ways to hold them.
use Rattle.std.specs.Prelude.{List, Some, None, map, fold}
use Rattle.std.specs.Option.{option_map}
use Rattle.text_meaning.specs.Tokens as tokens
use Rattle.text_meaning.specs.Trees as trees
use Rattle.base_types.specs.declared.span.Span.{Span}
use Rattle.mmt_syntax.specs.declared.expr.Binder.{Binder}
use Rattle.mmt_syntax.specs.declared.expr.Binder.TheVariants as binders
use Rattle.mmt_syntax.specs.declared.expr.Expr.{Expr}
use Rattle.mmt_syntax.specs.declared.expr.Exprs.{Exprs, out-Exprs}
use Rattle.mmt_syntax.specs.declared.expr.Node.{Node}
use Rattle.mmt_syntax.specs.declared.expr.Node.TheOpen as node
use Rattle.mmt_syntax.specs.declared.expr.Node.TheFolds.{fold-Node, fold-Expr}
use Rattle.mmt_syntax.specs.declared.written.Written.{Written}
use Rattle.mmt_syntax.specs.declared.morph.Morph.{Morph}
use Rattle.mmt_syntax.specs.declared.assign.Assign.{Assign}
use Rattle.mmt_syntax.specs.declared.assign.Assign.TheVariants as assigns
use Rattle.mmt_syntax.specs.declared.decl.Decl.{Decl}
use Rattle.mmt_syntax.specs.declared.decl.Decl.TheVariants as decls
use Rattle.mmt_syntax.specs.declared.module.Module.{Module}
use Rattle.mmt_syntax.specs.declared.module.Module.TheVariants as modules
use Rattle.mmt_syntax.specs.declared.module.Judgement.{Judgement}

abbrev pub read_span : Span → tokens.Span
read_span s = record { from = s.from; to = s.to }

abbrev pub read_binder : Binder → trees.Binder
read_binder (binders.Named x) = Some x
read_binder binders.Blank = None

-- Arguments in order, the last one outermost.
abbrev pub as_arguments : List trees.Expr → trees.Exprs
as_arguments es = fold trees.ThenArg trees.NoArgs es

-- What a node stands for at its span, given what its parts stand for; and an expression and a row likewise.
abbrev pub read_node_layer : node.Node-F (tokens.Span → trees.Expr) trees.Expr (List trees.Expr) → tokens.Span → trees.Expr
read_node_layer node.Ty s = trees.TypeExpr s
read_node_layer (node.Name p) s = trees.NameExpr s p
read_node_layer (node.App head args) s = trees.AppExpr s head.value (as_arguments args)
read_node_layer (node.Pi x a b) s = trees.PiExpr s (read_binder x) a.value b.value
read_node_layer (node.Lam x None b) s = trees.LamExpr s (read_binder x) b.value
read_node_layer (node.Lam x (Some a) b) s = trees.TypedLamExpr s (read_binder x) a.value b.value
read_node_layer (node.Arrow a b) s = trees.ArrowExpr s a.value b.value
read_node_layer (node.Back b a) s = trees.BackExpr s b.value a.value

abbrev pub read_expr_layer : node.Expr-F (tokens.Span → trees.Expr) trees.Expr (List trees.Expr) → trees.Expr
read_expr_layer e = e.node (read_span e.span)

abbrev pub read_exprs_layer : node.Exprs-F (tokens.Span → trees.Expr) trees.Expr (List trees.Expr) → List trees.Expr
read_exprs_layer es = es.items.items

-- A node that stands at a span.
abbrev pub read_node : Node → tokens.Span → trees.Expr
read_node = fold-Node (tokens.Span → trees.Expr) trees.Expr (List trees.Expr) read_node_layer read_expr_layer read_exprs_layer

abbrev pub read_expr : Expr → trees.Expr
read_expr = fold-Expr (tokens.Span → trees.Expr) trees.Expr (List trees.Expr) read_node_layer read_expr_layer read_exprs_layer

-- The expressions of a row, in order; and several expressions as arguments.
abbrev pub expressions_of : Exprs → List Expr
expressions_of es = (out-Exprs es).items.items

abbrev pub read_arguments : List Expr → trees.Exprs
read_arguments es = as_arguments (map read_expr es)

abbrev pub read_written : Written → trees.Written
read_written w = record { path = w.path; span = read_span w.span }

abbrev pub read_words : List Written → List trees.Written
read_words = map read_written

abbrev pub read_morph : Morph → List trees.Written
read_morph m = read_words m.words

abbrev pub read_assign : Assign → trees.Assign
read_assign (assigns.Include m) = trees.IncludeAssign (read_morph m)
read_assign (assigns.Struct t m) = trees.StructAssign (read_written t) (read_morph m)
read_assign (assigns.Const t e) = trees.ConstAssign (read_written t) (read_expr e)

abbrev pub read_assigns : List Assign → List trees.Assign
read_assigns = map read_assign

abbrev pub read_decl : Decl → trees.Decl
read_decl (decls.Include w) = trees.IncludeDecl (read_written w)
read_decl (decls.Struct s) = trees.StructDecl (read_written s.name) (read_written s.domain) (read_assigns s.assigns)
read_decl (decls.Const n c v) = trees.ConstDecl (read_written n) (read_expr c) (option_map read_expr v)

abbrev pub read_decls : List Decl → List trees.Decl
read_decls = map read_decl

abbrev pub read_module : Module → trees.Module
read_module (modules.Sig n ds) = trees.SigModule (read_written n) (read_decls ds)
read_module (modules.View v) = trees.ViewModule (read_written v.name) (read_written v.domain) (read_written v.codomain) (read_assigns v.assigns)

abbrev pub read_judgement : Judgement → trees.Judgement
read_judgement j = record { object = read_expr j.obj; family = read_expr j.fam }
