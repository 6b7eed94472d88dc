-- Items do not depend on spans.
use Rattle.std.proofs.Common.{◌≡◌, Bool, true, false, ◌&&◌, ◌||◌, List, [], ◌∷◌, ◌++◌, refl, ap, ap₂, ◌∙◌}
use Rattle.std.specs.Prelude.{Option, Some, None, map, flat_map, option_map, if◌then◌else◌}
use Rattle.text_meaning.specs.Trees.{Expr, TypeExpr, NameExpr, AppExpr, PiExpr, LamExpr, TypedLamExpr, ArrowExpr, BackExpr, Exprs, NoArgs, ThenArg, Written, Assign, IncludeAssign, StructAssign, ConstAssign, Decl, IncludeDecl, StructDecl, ConstDecl, Module, SigModule, ViewModule}
use Rattle.text_meaning.specs.UpToSpans.{bare_expr, bare_exprs, bare_written, bare_assign, bare_decl, bare_module}
use Rattle.print_meaning.specs.PrintedItems.{Gap, tight, space, new_line, Item, path_item, sig_item, view_item, include_item, struct_item, assign_item, arrow_item, back_item, left_bracket, left_brace, right_brace, right_bracket, colon_item, dot_item, equal_item}
use Rattle.print_meaning.specs.PrintedExpressions.{is_word, is_binding, is_application, is_operand, is_last_operand, is_back, binder_item, placed, expr_items, args_items}
use Rattle.print_meaning.specs.PrintedModules.{morph_items, assign_items, body_items, body_gap, value_items, value_gap, decl_items, module_items}

bare_word : (e : Expr) → is_word (bare_expr e) ≡ is_word e
unfolding bare_expr
bare_word (TypeExpr s) = refl
bare_word (NameExpr s p) = refl
bare_word (AppExpr s h xs) = refl
bare_word (PiExpr s x a b) = refl
bare_word (LamExpr s x b) = refl
bare_word (TypedLamExpr s x a b) = refl
bare_word (ArrowExpr s a b) = refl
bare_word (BackExpr s b a) = refl

bare_binding : (e : Expr) → is_binding (bare_expr e) ≡ is_binding e
unfolding bare_expr
bare_binding (TypeExpr s) = refl
bare_binding (NameExpr s p) = refl
bare_binding (AppExpr s h xs) = refl
bare_binding (PiExpr s x a b) = refl
bare_binding (LamExpr s x b) = refl
bare_binding (TypedLamExpr s x a b) = refl
bare_binding (ArrowExpr s a b) = refl
bare_binding (BackExpr s b a) = refl

bare_application : (e : Expr) → is_application (bare_expr e) ≡ is_application e
unfolding bare_expr
bare_application (TypeExpr s) = refl
bare_application (NameExpr s p) = refl
bare_application (AppExpr s h xs) = refl
bare_application (PiExpr s x a b) = refl
bare_application (LamExpr s x b) = refl
bare_application (TypedLamExpr s x a b) = refl
bare_application (ArrowExpr s a b) = refl
bare_application (BackExpr s b a) = refl

bare_back : (e : Expr) → is_back (bare_expr e) ≡ is_back e
unfolding bare_expr
bare_back (TypeExpr s) = refl
bare_back (NameExpr s p) = refl
bare_back (AppExpr s h xs) = refl
bare_back (PiExpr s x a b) = refl
bare_back (LamExpr s x b) = refl
bare_back (TypedLamExpr s x a b) = refl
bare_back (ArrowExpr s a b) = refl
bare_back (BackExpr s b a) = refl

bare_operand : (e : Expr) → is_operand (bare_expr e) ≡ is_operand e
bare_operand e = ap₂ (λ a b. a || b) (bare_word e) (bare_application e)

bare_last_operand : (e : Expr) → is_last_operand (bare_expr e) ≡ is_last_operand e
bare_last_operand e = ap₂ (λ a b. a || b) (bare_operand e) (bare_binding e)

placed_same : (t u : Bool) (p q i j : List Item) (gap : Gap) → t ≡ u → p ≡ q → i ≡ j → placed t p i gap ≡ placed u q j gap
placed_same t u p q i j gap e f g = ap (λ b. placed b p i gap) e ∙ ap (λ is. placed u is i gap) f ∙ ap (λ is. placed u q is gap) g

mutual
  unfolding bare_expr expr_items

  pub bare_items : (free : Bool) (e : Expr) (gap : Gap) → expr_items free (bare_expr e) gap ≡ expr_items free e gap
  bare_items free (TypeExpr s) gap = refl
  bare_items free (NameExpr s p) gap = refl
  bare_items free (AppExpr s h xs) gap =
      ap₂ (λ is js. is ++ js)
      (placed_same (is_word (bare_expr h)) (is_word h) (expr_items true (bare_expr h) space) (expr_items true h space) (expr_items true (bare_expr h) tight) (expr_items true h tight) space
      (bare_word h) (bare_items true h space) (bare_items true h tight))
      (bare_args free xs gap)
  bare_items free (PiExpr s x a b) gap =
      ap₂ (λ is js. left_brace tight ∷ binder_item x space ∷ colon_item ∷ (is ++ (right_brace space ∷ js))) (bare_items true a tight) (bare_items true b gap)
  bare_items free (LamExpr s x b) gap = ap (λ js. left_bracket ∷ binder_item x tight ∷ right_bracket space ∷ js) (bare_items true b gap)
  bare_items free (TypedLamExpr s x a b) gap =
      ap₂ (λ is js. left_bracket ∷ binder_item x space ∷ colon_item ∷ (is ++ (right_bracket space ∷ js))) (bare_items true a tight) (bare_items true b gap)
  bare_items free (ArrowExpr s a b) gap =
      ap₂ (λ is js. is ++ (arrow_item ∷ js))
      (placed_same (is_operand (bare_expr a)) (is_operand a) (expr_items false (bare_expr a) space) (expr_items false a space) (expr_items true (bare_expr a) tight) (expr_items true a tight) space
      (bare_operand a) (bare_items false a space) (bare_items true a tight))
      (placed_same (if is_back (bare_expr b) then false else true) (if is_back b then false else true) (expr_items true (bare_expr b) gap) (expr_items true b gap) (expr_items true (bare_expr b) tight) (expr_items true b tight) gap
      (ap (λ t. if t then false else true) (bare_back b)) (bare_items true b gap) (bare_items true b tight))
  bare_items free (BackExpr s b a) gap =
      ap₂ (λ is js. is ++ (back_item ∷ js))
      (placed_same (is_operand (bare_expr b) || is_back (bare_expr b)) (is_operand b || is_back b) (expr_items false (bare_expr b) space) (expr_items false b space) (expr_items true (bare_expr b) tight) (expr_items true b tight) space
      (ap₂ (λ t u. t || u) (bare_operand b) (bare_back b)) (bare_items false b space) (bare_items true b tight))
      (placed_same (if free then is_last_operand (bare_expr a) else is_operand (bare_expr a)) (if free then is_last_operand a else is_operand a) (expr_items free (bare_expr a) gap) (expr_items free a gap) (expr_items true (bare_expr a) tight) (expr_items true a tight) gap
      (ap₂ (λ t u. if free then t else u) (bare_last_operand a) (bare_operand a)) (bare_items free a gap) (bare_items true a tight))

  bare_args : (free : Bool) (xs : Exprs) (gap : Gap) → args_items free (bare_exprs xs) gap ≡ args_items free xs gap
  bare_args free NoArgs gap = refl
  bare_args free (ThenArg xs e) gap =
      ap₂ (λ is js. is ++ js) (bare_args false xs space)
      (placed_same (is_word (bare_expr e) || (free && is_binding (bare_expr e))) (is_word e || (free && is_binding e)) (expr_items true (bare_expr e) gap) (expr_items true e gap) (expr_items true (bare_expr e) tight) (expr_items true e tight) gap
      (ap₂ (λ t u. t || (free && u)) (bare_word e) (bare_binding e)) (bare_items true e gap) (bare_items true e tight))

bare_morph : (ws : List Written) (gap : Gap) → morph_items (map bare_written ws) gap ≡ morph_items ws gap
unfolding morph_items
bare_morph [] gap = refl
bare_morph (w ∷ []) gap = refl
bare_morph (w ∷ v ∷ ws) gap = ap (λ is. path_item w.path space ∷ is) (bare_morph (v ∷ ws) gap)

bare_assign_items : (gap : Gap) (x : Assign) → assign_items gap (bare_assign x) ≡ assign_items gap x
unfolding bare_assign
bare_assign_items gap (IncludeAssign m) = ap (λ is. include_item ∷ (is ++ (dot_item gap ∷ []))) (bare_morph m tight)
bare_assign_items gap (StructAssign t m) = ap (λ is. struct_item ∷ path_item t.path space ∷ assign_item ∷ (is ++ (dot_item gap ∷ []))) (bare_morph m tight)
bare_assign_items gap (ConstAssign t e) = ap (λ is. path_item t.path space ∷ assign_item ∷ (is ++ (dot_item gap ∷ []))) (bare_items true e tight)

bare_assigns : (gap : Gap) (xs : List Assign) → flat_map (assign_items gap) (map bare_assign xs) ≡ flat_map (assign_items gap) xs
bare_assigns gap [] = refl
bare_assigns gap (x ∷ xs) = ap₂ (λ is js. is ++ js) (bare_assign_items gap x) (bare_assigns gap xs)

bare_body : (xs : List Assign) → body_items (map bare_assign xs) ≡ body_items xs
bare_body [] = refl
bare_body (x ∷ xs) = ap (λ is. equal_item ∷ left_brace space ∷ (is ++ (right_brace tight ∷ []))) (bare_assigns space (x ∷ xs))

bare_body_gap : (xs : List Assign) → body_gap (map bare_assign xs) ≡ body_gap xs
bare_body_gap [] = refl
bare_body_gap (x ∷ xs) = refl

bare_value : (v : Option Expr) → value_items (option_map bare_expr v) ≡ value_items v
bare_value None = refl
bare_value (Some e) = ap (λ is. equal_item ∷ is) (bare_items true e tight)

bare_value_gap : (v : Option Expr) → value_gap (option_map bare_expr v) ≡ value_gap v
bare_value_gap None = refl
bare_value_gap (Some e) = refl

bare_decl_items : (d : Decl) → decl_items (bare_decl d) ≡ decl_items d
unfolding bare_decl
bare_decl_items (IncludeDecl w) = refl
bare_decl_items (StructDecl n d xs) =
    ap₂ (λ g is. struct_item ∷ path_item n.path space ∷ colon_item ∷ path_item d.path g ∷ (is ++ (dot_item new_line ∷ []))) (bare_body_gap xs) (bare_body xs)
bare_decl_items (ConstDecl n c v) =
    ap₂ (λ is js. path_item n.path space ∷ colon_item ∷ (is ++ (js ++ (dot_item new_line ∷ []))))
    (ap (λ g. expr_items true (bare_expr c) g) (bare_value_gap v) ∙ bare_items true c (value_gap v)) (bare_value v)

bare_decls : (ds : List Decl) → flat_map decl_items (map bare_decl ds) ≡ flat_map decl_items ds
bare_decls [] = refl
bare_decls (d ∷ ds) = ap₂ (λ is js. is ++ js) (bare_decl_items d) (bare_decls ds)

pub bare_module_items : (m : Module) → module_items (bare_module m) ≡ module_items m
unfolding bare_module module_items
bare_module_items (SigModule n ds) =
    ap (λ is. sig_item ∷ path_item n.path space ∷ equal_item ∷ left_brace new_line ∷ (is ++ (right_brace tight ∷ dot_item new_line ∷ []))) (bare_decls ds)
bare_module_items (ViewModule n d c xs) =
    ap (λ is. view_item ∷ path_item n.path space ∷ colon_item ∷ path_item d.path space ∷ arrow_item ∷ path_item c.path space ∷ equal_item ∷ left_brace new_line ∷ (is ++ (right_brace tight ∷ dot_item new_line ∷ [])))
    (bare_assigns new_line xs)
