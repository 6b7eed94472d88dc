-- What an expression stands for, by its node, and a size of it that is greater than those of its parts.
use Rattle.std.proofs.Common.{◌≡◌, ℕ, zero, suc, ◌+◌, ◌<◌, ◌≤◌, List, [], ◌∷◌, ◌++◌, take, length, slice_index_or, refl, sym, ap, ◌∙◌, map, fold, arith}
use Rattle.std.proofs.lemmas.List.{take_more}
use Rattle.std.specs.Prelude.{Option, Some, None}
use Rattle.name_meaning.specs.Names.{Path}
use Rattle.std.specs.Option.{option_map}
use Rattle.std.specs.declared.boxed.Box.{Box}
use Rattle.std.specs.declared.alloc.Global.{Global}
use Rattle.text_meaning.specs.Tokens.{Span}
use Rattle.text_meaning.specs.Trees as trees
use Rattle.mmt_syntax.specs.Readings.{read_span, read_node, read_binder, read_expr, read_arguments, expressions_of}
use Rattle.mmt_syntax.specs.declared.expr.Binder.{Binder}
use Rattle.mmt_syntax.specs.declared.expr.Expr.{Expr}
use Rattle.mmt_syntax.specs.declared.expr.Exprs.{Exprs}
use Rattle.mmt_syntax.specs.declared.expr.Node.{Node}
use Rattle.mmt_syntax.specs.declared.expr.Node.TheVariants as nodes
use Rattle.mmt_syntax.proofs.ReadingEquations.{read_expr_is, read_node_ty, read_node_name, read_node_app, read_node_pi, read_node_lam, read_node_typed_lam, read_node_arrow, read_node_back}

-- ---- readings

at_node : (e : Expr) (n : Node) → e.node ≡ n → read_expr e ≡ read_node n (read_span e.span)
at_node e n k = read_expr_is e ∙ ap (λ m. read_node m (read_span e.span)) k

pub read_app : (e : Expr) (h : Box Expr Global) (es : Exprs) (head : Expr) → e.node ≡ nodes.App h es → head ≡ h.value
    → read_expr e ≡ trees.AppExpr (read_span e.span) (read_expr head) (read_arguments (expressions_of es))
read_app e h es head k p =
    at_node e (nodes.App h es) k ∙ read_node_app h es (read_span e.span) ∙ ap (λ x. trees.AppExpr (read_span e.span) (read_expr x) (read_arguments (expressions_of es))) (sym p)

pub read_pi : (e : Expr) (x : Binder) (a b : Box Expr Global) (dom body : Expr) → e.node ≡ nodes.Pi x a b → dom ≡ a.value → body ≡ b.value
    → read_expr e ≡ trees.PiExpr (read_span e.span) (read_binder x) (read_expr dom) (read_expr body)
read_pi e x a b dom body k p q =
    at_node e (nodes.Pi x a b) k ∙ read_node_pi x a b (read_span e.span)
    ∙ ap (λ y. trees.PiExpr (read_span e.span) (read_binder x) (read_expr y) (read_expr b.value)) (sym p) ∙ ap (λ y. trees.PiExpr (read_span e.span) (read_binder x) (read_expr dom) (read_expr y)) (sym q)

pub read_lam : (e : Expr) (x : Binder) (b : Box Expr Global) (body : Expr) → e.node ≡ nodes.Lam x None b → body ≡ b.value
    → read_expr e ≡ trees.LamExpr (read_span e.span) (read_binder x) (read_expr body)
read_lam e x b body k q =
    at_node e (nodes.Lam x None b) k ∙ read_node_lam x b (read_span e.span) ∙ ap (λ y. trees.LamExpr (read_span e.span) (read_binder x) (read_expr y)) (sym q)

pub read_typed_lam : (e : Expr) (x : Binder) (a b : Box Expr Global) (dom body : Expr) → e.node ≡ nodes.Lam x (Some a) b → dom ≡ a.value → body ≡ b.value
    → read_expr e ≡ trees.TypedLamExpr (read_span e.span) (read_binder x) (read_expr dom) (read_expr body)
read_typed_lam e x a b dom body k p q =
    at_node e (nodes.Lam x (Some a) b) k ∙ read_node_typed_lam x a b (read_span e.span)
    ∙ ap (λ y. trees.TypedLamExpr (read_span e.span) (read_binder x) (read_expr y) (read_expr b.value)) (sym p) ∙ ap (λ y. trees.TypedLamExpr (read_span e.span) (read_binder x) (read_expr dom) (read_expr y)) (sym q)

pub read_arrow : (e : Expr) (a b : Box Expr Global) (dom body : Expr) → e.node ≡ nodes.Arrow a b → dom ≡ a.value → body ≡ b.value
    → read_expr e ≡ trees.ArrowExpr (read_span e.span) (read_expr dom) (read_expr body)
read_arrow e a b dom body k p q =
    at_node e (nodes.Arrow a b) k ∙ read_node_arrow a b (read_span e.span)
    ∙ ap (λ y. trees.ArrowExpr (read_span e.span) (read_expr y) (read_expr b.value)) (sym p) ∙ ap (λ y. trees.ArrowExpr (read_span e.span) (read_expr dom) (read_expr y)) (sym q)

pub read_back : (e : Expr) (b a : Box Expr Global) (body dom : Expr) → e.node ≡ nodes.Back b a → body ≡ b.value → dom ≡ a.value
    → read_expr e ≡ trees.BackExpr (read_span e.span) (read_expr body) (read_expr dom)
read_back e b a body dom k p q =
    at_node e (nodes.Back b a) k ∙ read_node_back b a (read_span e.span)
    ∙ ap (λ y. trees.BackExpr (read_span e.span) (read_expr y) (read_expr a.value)) (sym p) ∙ ap (λ y. trees.BackExpr (read_span e.span) (read_expr body) (read_expr y)) (sym q)

pub read_ty : (e : Expr) → e.node ≡ nodes.Ty → read_expr e ≡ trees.TypeExpr (read_span e.span)
read_ty e k = at_node e nodes.Ty k ∙ read_node_ty (read_span e.span)

pub read_name : (e : Expr) (p : Path) → e.node ≡ nodes.Name p → read_expr e ≡ trees.NameExpr (read_span e.span) p
read_name e p k = at_node e (nodes.Name p) k ∙ read_node_name p (read_span e.span)

-- ---- rows

-- one element more of the front of a list
pub next_taken : {A : Type 0} (xs : List A) (i : ℕ) (x : A) → x ≡ slice_index_or xs i x → i < length xs → take (i + 1) xs ≡ take i xs ++ (x ∷ [])
next_taken xs i x e h = take_more xs i x h ∙ ap (λ z. take i xs ++ (z ∷ [])) (sym e)

-- arguments with one more behind them
pub read_last : (es : List Expr) (e : Expr) → read_arguments (es ++ (e ∷ [])) ≡ trees.ThenArg (read_arguments es) (read_expr e)
read_last es e = from es trees.NoArgs
  where
    from : (xs : List Expr) (done : trees.Exprs) → fold trees.ThenArg done (map read_expr (xs ++ (e ∷ []))) ≡ trees.ThenArg (fold trees.ThenArg done (map read_expr xs)) (read_expr e)
    from [] done = refl
    from (x ∷ xs) done = from xs (trees.ThenArg done (read_expr x))

-- ---- sizes

unfoldable mutual
  pub size : trees.Expr → ℕ
  size (trees.TypeExpr s) = 1
  size (trees.NameExpr s p) = 1
  size (trees.AppExpr s h xs) = 2 + (size h + args_size xs)
  size (trees.PiExpr s x a b) = 2 + (size a + size b)
  size (trees.LamExpr s x b) = 2 + size b
  size (trees.TypedLamExpr s x a b) = 2 + (size a + size b)
  size (trees.ArrowExpr s a b) = 2 + (size a + size b)
  size (trees.BackExpr s b a) = 2 + (size b + size a)

  pub args_size : trees.Exprs → ℕ
  args_size trees.NoArgs = 0
  args_size (trees.ThenArg xs e) = 1 + (args_size xs + size e)

pub app_size : (e : trees.Expr) (s : Span) (h : trees.Expr) (xs : trees.Exprs) → e ≡ trees.AppExpr s h xs → size e ≡ 2 + (size h + args_size xs)
unfolding size
app_size e s h xs k = ap size k

pub pi_size : (e : trees.Expr) (s : Span) (x : trees.Binder) (a b : trees.Expr) → e ≡ trees.PiExpr s x a b → size e ≡ 2 + (size a + size b)
unfolding size
pi_size e s x a b k = ap size k

pub lam_size : (e : trees.Expr) (s : Span) (x : trees.Binder) (b : trees.Expr) → e ≡ trees.LamExpr s x b → size e ≡ 2 + size b
unfolding size
lam_size e s x b k = ap size k

pub typed_lam_size : (e : trees.Expr) (s : Span) (x : trees.Binder) (a b : trees.Expr) → e ≡ trees.TypedLamExpr s x a b → size e ≡ 2 + (size a + size b)
unfolding size
typed_lam_size e s x a b k = ap size k

pub arrow_size : (e : trees.Expr) (s : Span) (a b : trees.Expr) → e ≡ trees.ArrowExpr s a b → size e ≡ 2 + (size a + size b)
unfolding size
arrow_size e s a b k = ap size k

pub back_size : (e : trees.Expr) (s : Span) (b a : trees.Expr) → e ≡ trees.BackExpr s b a → size e ≡ 2 + (size b + size a)
unfolding size
back_size e s b a k = ap size k

-- the size of a row, from the left
unfoldable row_size : List Expr → ℕ
row_size [] = 0
row_size (e ∷ es) = 1 + (size (read_expr e) + row_size es)

args_row : (es : List Expr) → args_size (read_arguments es) ≡ row_size es
unfolding size row_size
args_row es = omega (arith, from es trees.NoArgs)
  where
    from : (xs : List Expr) (done : trees.Exprs) → args_size (fold trees.ThenArg done (map read_expr xs)) ≡ args_size done + row_size xs
    from [] done = omega arith
    from (x ∷ xs) done = omega (arith, from xs (trees.ThenArg done (read_expr x)))

row_append : (xs ys : List Expr) → row_size (xs ++ ys) ≡ row_size xs + row_size ys
unfolding row_size
row_append [] ys = omega arith
row_append (x ∷ xs) ys = omega (arith, row_append xs ys)

row_taken : (xs : List Expr) (n : ℕ) → row_size (take n xs) ≤ row_size xs
unfolding row_size
row_taken [] zero = omega arith
row_taken [] (suc n) = omega arith
row_taken (x ∷ xs) zero = omega arith
row_taken (x ∷ xs) (suc n) = omega (arith, row_taken xs n)

-- one of several expressions, and the last of them
pub element_below : (xs : List Expr) (i : ℕ) (x : Expr) → x ≡ slice_index_or xs i x → i < length xs → size (read_expr x) < args_size (read_arguments xs)
unfolding row_size
element_below xs i x e h =
    let taken : row_size (take (i + 1) xs) ≡ row_size (take i xs ++ (x ∷ [])) = ap row_size (next_taken xs i x e h) in
    omega (arith, args_row xs, row_taken xs (i + 1), taken, row_append (take i xs) (x ∷ []))

pub last_below : (es others : List Expr) (last : Expr) → es ≡ others ++ (last ∷ []) → size (read_expr last) < args_size (read_arguments es)
unfolding row_size
last_below es others last k =
    let whole : row_size es ≡ row_size (others ++ (last ∷ [])) = ap row_size k in
    omega (arith, args_row es, whole, row_append others (last ∷ []))

pub other_below : (es others : List Expr) (last x : Expr) (i : ℕ) → es ≡ others ++ (last ∷ []) → x ≡ slice_index_or others i x → i < length others
    → size (read_expr x) < args_size (read_arguments es)
unfolding row_size
other_below es others last x i k e h =
    let whole : row_size es ≡ row_size (others ++ (last ∷ [])) = ap row_size k in
    omega (arith, args_row es, args_row others, whole, row_append others (last ∷ []), element_below others i x e h)

-- the size of an expression that may be there
abbrev pub written_size : Option trees.Expr → ℕ
written_size None = 0
written_size (Some e) = size e

pub lambda_size : (e : Expr) (x : Binder) (w : Option (Box Expr Global)) (b : Box Expr Global) (body : Expr) → e.node ≡ nodes.Lam x w b → body ≡ b.value
    → size (read_expr e) ≡ 2 + (written_size (option_map (λ (domain : Box Expr Global). read_expr domain.value) w) + size (read_expr body))
lambda_size e x None b body k q = omega (arith, lam_size (read_expr e) _ (read_binder x) (read_expr body) (read_lam e x b body k q))
lambda_size e x (Some a) b body k q = omega (arith, typed_lam_size (read_expr e) _ (read_binder x) (read_expr a.value) (read_expr body) (read_typed_lam e x a b a.value body k refl q))
