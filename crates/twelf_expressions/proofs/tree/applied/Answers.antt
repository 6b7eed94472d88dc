-- Arguments, where there are some, make an application.
use Rattle.std.proofs.Common.{◌≡◌, List, [], ◌∷◌, map, length, refl, sym, ap, subst, ◌∙◌}
use Rattle.std.specs.Prelude.{fold}
use Rattle.text_meaning.specs.Tokens.{Span}
use Rattle.text_meaning.specs.Trees.{Expr, Exprs, AppExpr, ThenArg}
use Rattle.text_meaning.specs.Grammar as grammar
use Rattle.mmt_syntax.specs.declared.expr.Expr as syntax
use Rattle.mmt_syntax.specs.Readings.{read_expr, read_arguments, expressions_of, read_span}
use Rattle.mmt_syntax.proofs.ReadingEquations.{read_node_app}
use Rattle.twelf_expressions.specs.Frames.{IsSpelled}
use Rattle.twelf_expressions.proofs.tree.applied.Goals as goal

applied_then : (s : Span) (h : Expr) (xs : Exprs) (e : Expr) (es : List Expr) → grammar.applied s h (fold ThenArg (ThenArg xs e) es) ≡ AppExpr s h (fold ThenArg (ThenArg xs e) es)
applied_then s h xs e [] = refl
applied_then s h xs e (f ∷ es) = applied_then s h (ThenArg xs e) f es

applied_some : (s : Span) (h : Expr) (es : List syntax.Expr) → ¬ (length es ≡ 0) → grammar.applied s h (read_arguments es) ≡ AppExpr s h (read_arguments es)
applied_some s h [] n = absurd (n refl)
applied_some s h (e ∷ es) n = applied_then s h _ (read_expr e) (map read_expr es)

pub returns : goal.returns
returns c =
    let a = c.args.atoms in
    let h = c.in_ok-new.field-0 in
    let some = applied_some (read_span a.span) (read_expr a.head) (expressions_of a.args) (λ e. c.if-len-eq0.false (c.len.ensures ∙ e)) in
    let is = read_node_app h a.args (read_span a.span) ∙ ap (λ e. AppExpr (read_span a.span) (read_expr e) (read_arguments (expressions_of a.args))) c.in_ok-new.ensures.ok ∙ sym some in
    subst (λ e. IsSpelled c.spelled.result (read_span a.span) e) is c.spelled.ensures
