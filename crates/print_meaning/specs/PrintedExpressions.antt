-- How expressions are printed: parentheses stand only where the grammar needs them (this profile).
use Rattle.std.specs.Prelude.{ℕ, codes, Bool, true, false, List, [], ◌∷◌, ◌++◌, ◌&&◌, ◌||◌, Some, None, if◌then◌else◌}
use Rattle.text_meaning.specs.Tokens.{Kind, Mark, Ident, BlankSign, spelled}
use Rattle.text_meaning.specs.Trees.{Binder, Expr, TypeExpr, NameExpr, AppExpr, PiExpr, LamExpr, TypedLamExpr, ArrowExpr, BackExpr, Exprs, NoArgs, ThenArg}
use Rattle.print_meaning.specs.PrintedItems.{Gap, tight, space, Item, item, path_item, colon_item, left_paren, right_paren, left_bracket, right_bracket, left_brace, right_brace, type_item, arrow_item, back_item}

-- a name or `type`, which is an atom without parentheses
abbrev pub is_word : Expr → Bool
is_word (TypeExpr s) = true
is_word (NameExpr s p) = true
is_word (AppExpr s h xs) = false
is_word (PiExpr s x a b) = false
is_word (LamExpr s x b) = false
is_word (TypedLamExpr s x a b) = false
is_word (ArrowExpr s a b) = false
is_word (BackExpr s b a) = false

-- a Π or a λ, which reaches as far to the right as it can
abbrev pub is_binding : Expr → Bool
is_binding (TypeExpr s) = false
is_binding (NameExpr s p) = false
is_binding (AppExpr s h xs) = false
is_binding (PiExpr s x a b) = true
is_binding (LamExpr s x b) = true
is_binding (TypedLamExpr s x a b) = true
is_binding (ArrowExpr s a b) = false
is_binding (BackExpr s b a) = false

abbrev pub is_application : Expr → Bool
is_application (TypeExpr s) = false
is_application (NameExpr s p) = false
is_application (AppExpr s h xs) = true
is_application (PiExpr s x a b) = false
is_application (LamExpr s x b) = false
is_application (TypedLamExpr s x a b) = false
is_application (ArrowExpr s a b) = false
is_application (BackExpr s b a) = false

abbrev pub is_back : Expr → Bool
is_back (TypeExpr s) = false
is_back (NameExpr s p) = false
is_back (AppExpr s h xs) = false
is_back (PiExpr s x a b) = false
is_back (LamExpr s x b) = false
is_back (TypedLamExpr s x a b) = false
is_back (ArrowExpr s a b) = false
is_back (BackExpr s b a) = true

-- where an operand of a row stands: `A` of `A -> B`, and every operand of a row of `<-` but the last
abbrev pub is_operand : Expr → Bool
is_operand e = is_word e || is_application e

-- the last operand of a row of `<-`, behind which nothing of the row follows
abbrev pub is_last_operand : Expr → Bool
is_last_operand e = is_operand e || is_binding e

-- the variable of a binder: its name, or `_`
abbrev pub binder_kind : Binder → Kind
binder_kind (Some name) = Ident (name ∷ [])
binder_kind None = Mark BlankSign

abbrev pub binder_bytes : Binder → List ℕ
binder_bytes (Some name) = spelled (name ∷ [])
binder_bytes None = codes "_"

abbrev pub binder_item : Binder → Gap → Item
binder_item x gap = item (binder_kind x) (binder_bytes x) gap

-- an expression in parentheses
abbrev pub enclosed : List Item → Gap → List Item
enclosed inside gap = left_paren ∷ (inside ++ (right_paren gap ∷ []))

-- an expression that is printed in one of two ways: as it is, or in parentheses
abbrev pub placed : Bool → List Item → List Item → Gap → List Item
placed bare plain inside gap = if bare then plain else enclosed inside gap

-- An expression without parentheses round it. Where it is free nothing follows that a Π or λ at its end could take in;
-- else it ends in an atom.
unfoldable mutual
  pub expr_items : (free : Bool) → Expr → Gap → List Item
  expr_items free (TypeExpr s) gap = type_item gap ∷ []
  expr_items free (NameExpr s p) gap = path_item p gap ∷ []
  expr_items free (AppExpr s h xs) gap = placed (is_word h) (expr_items true h space) (expr_items true h tight) space ++ args_items free xs gap
  expr_items free (PiExpr s x a b) gap =
      left_brace tight ∷ binder_item x space ∷ colon_item ∷ (expr_items true a tight ++ (right_brace space ∷ expr_items true b gap))
  expr_items free (LamExpr s x b) gap = left_bracket ∷ binder_item x tight ∷ right_bracket space ∷ expr_items true b gap
  expr_items free (TypedLamExpr s x a b) gap =
      left_bracket ∷ binder_item x space ∷ colon_item ∷ (expr_items true a tight ++ (right_bracket space ∷ expr_items true b gap))
  expr_items free (ArrowExpr s a b) gap =
      placed (is_operand a) (expr_items false a space) (expr_items true a tight) space
      ++ (arrow_item ∷ placed (if is_back b then false else true) (expr_items true b gap) (expr_items true b tight) gap)
  expr_items free (BackExpr s b a) gap =
      placed (is_operand b || is_back b) (expr_items false b space) (expr_items true b tight) space
      ++ (back_item ∷ placed (if free then is_last_operand a else is_operand a) (expr_items free a gap) (expr_items true a tight) gap)

  -- arguments, each an atom; where the row is free the last may be a Π or a λ as it is
  pub args_items : (free : Bool) → Exprs → Gap → List Item
  args_items free NoArgs gap = []
  args_items free (ThenArg xs e) gap =
      args_items false xs space ++ placed (is_word e || (free && is_binding e)) (expr_items true e gap) (expr_items true e tight) gap

-- an expression by itself
abbrev pub whole_items : Expr → Gap → List Item
whole_items e gap = expr_items true e gap
