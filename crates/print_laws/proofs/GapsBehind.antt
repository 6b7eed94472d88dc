-- The gap behind an expression is the end of its text.
use Rattle.std.proofs.Common.{◌≡◌, ℕ, Bool, true, false, ◌&&◌, ◌||◌, List, [], ◌∷◌, ◌++◌, sym, ap, ◌∙◌, append_assoc, append-nil, codes}
use Rattle.std.specs.Prelude.{if◌then◌else◌}
use Rattle.text_meaning.specs.Tokens.{Kind, Mark, Ident, TypeWord, RightParen, spelled}
use Rattle.text_meaning.specs.Trees.{Expr, TypeExpr, NameExpr, AppExpr, PiExpr, LamExpr, TypedLamExpr, ArrowExpr, BackExpr, Exprs, NoArgs, ThenArg}
use Rattle.print_meaning.specs.PrintedItems.{Gap, tight, space, Item, item, left_paren, right_paren, left_bracket, left_brace, right_bracket, right_brace, colon_item, arrow_item, back_item, text_of}
use Rattle.print_meaning.specs.PrintedExpressions.{is_word, is_binding, is_operand, is_last_operand, is_back, binder_item, placed, expr_items, args_items}
use Rattle.print_laws.proofs.LaidOut.{text_append}
use Rattle.print_laws.proofs.WellWritten.{IsWellWritten, AreWellWritten, HasArgs}

-- one item
item_gap : (kind : Kind) (bytes : List ℕ) (gap : Gap) → text_of (item kind bytes gap ∷ []) ≡ text_of (item kind bytes tight ∷ []) ++ gap
unfolding text_of
item_gap kind bytes gap = ap (λ t. bytes ++ t) (append-nil gap) ∙ ap (λ t. t ++ gap) (sym (append-nil bytes))

-- items in front
behind : (front xs ys : List Item) (gap : Gap) → text_of xs ≡ text_of ys ++ gap → text_of (front ++ xs) ≡ text_of (front ++ ys) ++ gap
behind front xs ys gap h =
    text_append front xs ∙ ap (λ t. text_of front ++ t) h ∙ sym (append_assoc (text_of front) (text_of ys) gap) ∙ ap (λ t. t ++ gap) (sym (text_append front ys))

placed_gap : (bare : Bool) (xs ys inside : List Item) (gap : Gap) → text_of xs ≡ text_of ys ++ gap → text_of (placed bare xs inside gap) ≡ text_of (placed bare ys inside tight) ++ gap
placed_gap true xs ys inside gap h = h
placed_gap false xs ys inside gap h = behind (left_paren ∷ inside) (right_paren gap ∷ []) (right_paren tight ∷ []) gap (item_gap (Mark RightParen) (codes ")") gap)

mutual
  unfolding expr_items

  pub expr_gap : (free : Bool) (e : Expr) (gap : Gap) → IsWellWritten e → text_of (expr_items free e gap) ≡ text_of (expr_items free e tight) ++ gap
  expr_gap free (TypeExpr s) gap w = item_gap (Mark TypeWord) (codes "type") gap
  expr_gap free (NameExpr s p) gap w = item_gap (Ident p) (spelled p) gap
  expr_gap free (AppExpr s h xs) gap w =
      behind (placed (is_word h) (expr_items true h space) (expr_items true h tight) space) (args_items free xs gap) (args_items free xs tight) gap (args_gap free xs gap w.args w.some)
  expr_gap free (PiExpr s x a b) gap w =
      behind (left_brace tight ∷ binder_item x space ∷ colon_item ∷ expr_items true a tight) (right_brace space ∷ expr_items true b gap) (right_brace space ∷ expr_items true b tight) gap
      (behind (right_brace space ∷ []) (expr_items true b gap) (expr_items true b tight) gap (expr_gap true b gap w.body))
  expr_gap free (LamExpr s x b) gap w =
      behind (left_bracket ∷ binder_item x tight ∷ right_bracket space ∷ []) (expr_items true b gap) (expr_items true b tight) gap (expr_gap true b gap w.body)
  expr_gap free (TypedLamExpr s x a b) gap w =
      behind (left_bracket ∷ binder_item x space ∷ colon_item ∷ expr_items true a tight) (right_bracket space ∷ expr_items true b gap) (right_bracket space ∷ expr_items true b tight) gap
      (behind (right_bracket space ∷ []) (expr_items true b gap) (expr_items true b tight) gap (expr_gap true b gap w.body))
  expr_gap free (ArrowExpr s a b) gap w =
      let bare : Bool = if is_back b then false else true in
      let last = placed bare (expr_items true b gap) (expr_items true b tight) gap in
      let tight_last = placed bare (expr_items true b tight) (expr_items true b tight) tight in
      behind (placed (is_operand a) (expr_items false a space) (expr_items true a tight) space) (arrow_item ∷ last) (arrow_item ∷ tight_last) gap
      (behind (arrow_item ∷ []) last tight_last gap (placed_gap bare (expr_items true b gap) (expr_items true b tight) (expr_items true b tight) gap (expr_gap true b gap w.body)))
  expr_gap free (BackExpr s b a) gap w =
      let bare : Bool = if free then is_last_operand a else is_operand a in
      let last = placed bare (expr_items free a gap) (expr_items true a tight) gap in
      let tight_last = placed bare (expr_items free a tight) (expr_items true a tight) tight in
      behind (placed (is_operand b || is_back b) (expr_items false b space) (expr_items true b tight) space) (back_item ∷ last) (back_item ∷ tight_last) gap
      (behind (back_item ∷ []) last tight_last gap (placed_gap bare (expr_items free a gap) (expr_items free a tight) (expr_items true a tight) gap (expr_gap free a gap w.domain)))

  args_gap : (free : Bool) (xs : Exprs) (gap : Gap) → AreWellWritten xs → HasArgs xs → text_of (args_items free xs gap) ≡ text_of (args_items free xs tight) ++ gap
  args_gap free NoArgs gap w some = absurd some
  args_gap free (ThenArg xs e) gap w some =
      let bare : Bool = is_word e || (free && is_binding e) in
      behind (args_items false xs space) (placed bare (expr_items true e gap) (expr_items true e tight) gap) (placed bare (expr_items true e tight) (expr_items true e tight) tight) gap
      (placed_gap bare (expr_items true e gap) (expr_items true e tight) (expr_items true e tight) gap (expr_gap true e gap w.1))
