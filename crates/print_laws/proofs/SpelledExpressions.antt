-- The tokens of printed expressions spell them, up to spans.
use Rattle.std.proofs.Common.{◌≡◌, ℕ, ◌+◌, Bool, true, false, ◌&&◌, ◌||◌, List, [], ◌∷◌, ◌++◌, length, refl, sym, ap, ap₂, ◌∙◌, subst, append_assoc, append-nil, ◌⊎◌, inl, inr, ⊎_elim, true≢false}
use Rattle.std.specs.Prelude.{Some, None, if◌then◌else◌}
use Rattle.std.proofs.lemmas.Bool.{or_cases}
use Rattle.text_meaning.specs.Tokens.{Span, Token, Mark, token, spelled, LeftBracket, LeftBrace, ColonSign}
use Rattle.text_meaning.specs.Trees.{Binder, Expr, TypeExpr, NameExpr, AppExpr, PiExpr, LamExpr, TypedLamExpr, ArrowExpr, BackExpr, Exprs, NoArgs, ThenArg}
use Rattle.text_meaning.specs.Grammar.{join, SpellsBinder, named, blank, name, type_word, pi, lam, typed_lam}
use Rattle.text_meaning.specs.UpToSpans.{no_span, bare_expr}
use Rattle.print_meaning.specs.PrintedItems.{Gap, tight, space, Item, path_item, type_item, right_brace, right_bracket, arrow_item, back_item, text_of, end_of, tokens_of}
use Rattle.print_meaning.specs.PrintedExpressions.{is_word, is_binding, is_operand, is_last_operand, is_back, binder_item, placed, expr_items, args_items}
use Rattle.print_laws.proofs.LaidOut.{tokens_append}
use Rattle.print_laws.proofs.WellWritten.{IsWellWritten, AreWellWritten, HasArgs}
use Rattle.print_laws.proofs.SpellingParts.{ExprAt, ArrowsAt, LastAt, BindingAt, AtomAt, AtomsAt, RowAt, TailAt, FrontAt, arrows_at, last_at, binding_at, atoms_at, atom_at, atom_row, row_more, row_atoms, row_binding, arrow_at, atoms_front, front_more, atoms_tail, last_tail, back_at, enclosed_at, placed_atom, placed_atoms, placed_arrows, placed_front}

-- the binder's variable
binder_at : (at : ℕ) (x : Binder) (gap : Gap) → SpellsBinder (token at (at + length (binder_item x gap).bytes) (binder_item x gap).kind) x
binder_at at (Some n) gap = named
binder_at at None gap = blank

-- What the tokens of an expression spell, by what it is.
pub record Forms (e : Expr) : Type 0 where
  pub whole : (at : ℕ) (gap : Gap) → ExprAt (tokens_of at (expr_items true e gap)) e
  pub word : is_word e ≡ true → (at : ℕ) (gap : Gap) → AtomAt (tokens_of at (expr_items true e gap)) e
  pub operand : is_operand e ≡ true → (at : ℕ) (gap : Gap) → AtomsAt (tokens_of at (expr_items false e gap)) e
  pub binding : is_binding e ≡ true → (at : ℕ) (gap : Gap) → BindingAt (tokens_of at (expr_items true e gap)) e
  pub rows : is_back e ≡ false → (at : ℕ) (gap : Gap) → ArrowsAt (tokens_of at (expr_items true e gap)) e
  pub front : is_back e ≡ true → (at : ℕ) (gap : Gap) → FrontAt (tokens_of at (expr_items false e gap)) e
  pub tail : is_operand e ≡ true → (at : ℕ) (gap : Gap) → AtomsAt (tokens_of at (expr_items true e gap)) e ⊎ LastAt (tokens_of at (expr_items true e gap)) e

-- a word
of_word : (e : Expr) → is_word e ≡ true → is_binding e ≡ false → is_back e ≡ false → ((free : Bool) (at : ℕ) (gap : Gap) → AtomAt (tokens_of at (expr_items free e gap)) e) → Forms e
of_word e w n b h = record {
  whole = λ at gap. arrows_at (atoms_at (atom_at (h true at gap)));
  word = λ k at gap. h true at gap;
  operand = λ k at gap. atom_at (h false at gap);
  binding = λ k at gap. absurd (true≢false (sym k ∙ n));
  rows = λ k at gap. atoms_at (atom_at (h true at gap));
  front = λ k at gap. absurd (true≢false (sym k ∙ b));
  tail = λ k at gap. inl (atom_at (h true at gap));
}

-- a binding
of_binding : (e : Expr) → is_word e ≡ false → is_operand e ≡ false → is_back e ≡ false → ((at : ℕ) (gap : Gap) → BindingAt (tokens_of at (expr_items true e gap)) e) → Forms e
of_binding e w o b h = record {
  whole = λ at gap. arrows_at (last_at (binding_at (h at gap)));
  word = λ k at gap. absurd (true≢false (sym k ∙ w));
  operand = λ k at gap. absurd (true≢false (sym k ∙ o));
  binding = λ k at gap. h at gap;
  rows = λ k at gap. last_at (binding_at (h at gap));
  front = λ k at gap. absurd (true≢false (sym k ∙ b));
  tail = λ k at gap. absurd (true≢false (sym k ∙ o));
}

-- an application: closed it is a row of atoms; free it may end in a binding
of_application : (s : Span) (h : Expr) (xs : Exprs) → ((at : ℕ) (gap : Gap) → AtomsAt (tokens_of at (expr_items false (AppExpr s h xs) gap)) (AppExpr s h xs))
    → ((at : ℕ) (gap : Gap) → AtomsAt (tokens_of at (expr_items true (AppExpr s h xs) gap)) (AppExpr s h xs) ⊎ LastAt (tokens_of at (expr_items true (AppExpr s h xs) gap)) (AppExpr s h xs))
    → Forms (AppExpr s h xs)
of_application s h xs closed free = record {
  whole = λ at gap. arrows_at (⊎_elim atoms_at last_at (free at gap));
  word = λ k at gap. absurd (true≢false (sym k));
  operand = λ k at gap. closed at gap;
  binding = λ k at gap. absurd (true≢false (sym k));
  rows = λ k at gap. ⊎_elim atoms_at last_at (free at gap);
  front = λ k at gap. absurd (true≢false (sym k));
  tail = λ k at gap. free at gap;
}

-- ---- the tokens of each form

name_at : (s : Span) (p : List (List ℕ)) (at : ℕ) (gap : Gap) → AtomAt (tokens_of at (path_item p gap ∷ [])) (NameExpr s p)
unfolding tokens_of text_of bare_expr
name_at s p at gap = record { span = record { from = at; to = at + length (spelled p) }; tree = NameExpr (record { from = at; to = at + length (spelled p) }) p; spells = name; same = refl }

type_at : (s : Span) (at : ℕ) (gap : Gap) → AtomAt (tokens_of at (type_item gap ∷ [])) (TypeExpr s)
unfolding tokens_of text_of bare_expr
type_at s at gap = record { span = record { from = at; to = at + 4 }; tree = TypeExpr (record { from = at; to = at + 4 }); spells = type_word; same = refl }

-- `{x : A} B`, `[x] B` and `[x : A] B`
pi_at : (s : Span) (x : Binder) (a b : Expr) (at : ℕ) (gap : Gap) → Forms a → Forms b → BindingAt (tokens_of at (expr_items true (PiExpr s x a b) gap)) (PiExpr s x a b)
unfolding tokens_of text_of bare_expr expr_items
pi_at s x a b at gap f g =
    let variable : ℕ = at + 1 + 0 in
    let colon : ℕ = variable + length (binder_item x space).bytes + 1 in
    let domain : ℕ = colon + 1 + 1 in
    let brace : ℕ = end_of domain (expr_items true a tight) in
    let first = f.whole domain tight in
    let second = g.whole (brace + 1 + 1) gap in
    let left : Span = record { from = at; to = at + 1 } in
    subst (λ ts. BindingAt (token at (at + 1) (Mark LeftBrace) ∷ token variable (variable + length (binder_item x space).bytes) (binder_item x space).kind ∷ token colon (colon + 1) (Mark ColonSign) ∷ ts) (PiExpr s x a b))
    (sym (tokens_append domain (expr_items true a tight) (right_brace space ∷ expr_items true b gap)))
    (record {
      span = join left second.span;
      tree = PiExpr (join left second.span) x first.tree second.tree;
      spells = pi (tokens_of domain (expr_items true a tight)) (tokens_of (brace + 1 + 1) (expr_items true b gap)) (record { from = brace; to = brace + 1 }) (binder_at variable x space) first.spells second.spells;
      same = ap₂ (PiExpr no_span x) first.same second.same;
    })

typed_lam_at : (s : Span) (x : Binder) (a b : Expr) (at : ℕ) (gap : Gap) → Forms a → Forms b → BindingAt (tokens_of at (expr_items true (TypedLamExpr s x a b) gap)) (TypedLamExpr s x a b)
unfolding tokens_of text_of bare_expr expr_items
typed_lam_at s x a b at gap f g =
    let variable : ℕ = at + 1 + 0 in
    let colon : ℕ = variable + length (binder_item x space).bytes + 1 in
    let domain : ℕ = colon + 1 + 1 in
    let brace : ℕ = end_of domain (expr_items true a tight) in
    let first = f.whole domain tight in
    let second = g.whole (brace + 1 + 1) gap in
    let left : Span = record { from = at; to = at + 1 } in
    subst (λ ts. BindingAt (token at (at + 1) (Mark LeftBracket) ∷ token variable (variable + length (binder_item x space).bytes) (binder_item x space).kind ∷ token colon (colon + 1) (Mark ColonSign) ∷ ts) (TypedLamExpr s x a b))
    (sym (tokens_append domain (expr_items true a tight) (right_bracket space ∷ expr_items true b gap)))
    (record {
      span = join left second.span;
      tree = TypedLamExpr (join left second.span) x first.tree second.tree;
      spells = typed_lam (tokens_of domain (expr_items true a tight)) (tokens_of (brace + 1 + 1) (expr_items true b gap)) (record { from = brace; to = brace + 1 }) (binder_at variable x space) first.spells second.spells;
      same = ap₂ (TypedLamExpr no_span x) first.same second.same;
    })

lam_at : (s : Span) (x : Binder) (b : Expr) (at : ℕ) (gap : Gap) → Forms b → BindingAt (tokens_of at (expr_items true (LamExpr s x b) gap)) (LamExpr s x b)
unfolding tokens_of text_of bare_expr expr_items
lam_at s x b at gap g =
    let variable : ℕ = at + 1 + 0 in
    let bracket : ℕ = variable + length (binder_item x tight).bytes + 0 in
    let second = g.whole (bracket + 1 + 1) gap in
    let left : Span = record { from = at; to = at + 1 } in
    record {
      span = join left second.span;
      tree = LamExpr (join left second.span) x second.tree;
      spells = lam (tokens_of (bracket + 1 + 1) (expr_items true b gap)) (binder_at variable x tight) second.spells;
      same = ap (LamExpr no_span x) second.same;
    }

-- ---- applications

abbrev pub AllForms : Exprs → Type 0
AllForms NoArgs = Unit {0}
AllForms (ThenArg xs e) = AllForms xs × Forms e

abbrev head_items : Expr → List Item
head_items h = placed (is_word h) (expr_items true h space) (expr_items true h tight) space

head_at : (h : Expr) (at : ℕ) → Forms h → RowAt (tokens_of at (head_items h)) h NoArgs
head_at h at f =
    atom_row (placed_atom (is_word h) at (expr_items true h space) (expr_items true h tight) space h (λ k. f.word k at space) (λ place. f.whole place tight))

-- an argument that is no bare binding
arg_at : (e : Expr) (bare : Bool) (at : ℕ) (gap : Gap) → (bare ≡ true → is_word e ≡ true) → Forms e → AtomAt (tokens_of at (placed bare (expr_items true e gap) (expr_items true e tight) gap)) e
arg_at e bare at gap k f = placed_atom bare at (expr_items true e gap) (expr_items true e tight) gap e (λ t. f.word (k t) at gap) (λ place. f.whole place tight)

only_word : (a b : Bool) → (a || (false && b)) ≡ true → a ≡ true
only_word true b h = refl
only_word false b h = h

word_left : (a b : Bool) → (a || (true && b)) ≡ true → b ≡ false → a ≡ true
word_left true b h k = refl
word_left false b h k = absurd (true≢false (sym h ∙ k))

or_right : (a b : Bool) → b ≡ true → (a || (true && b)) ≡ true
or_right true b h = refl
or_right false b h = h

-- items behind a row
behind_row : (at : ℕ) (xs ys zs : List Item) (ts : List Token → Type 0) → ts (tokens_of at (xs ++ ys) ++ tokens_of (end_of at (xs ++ ys)) zs) → ts (tokens_of at (xs ++ (ys ++ zs)))
behind_row at xs ys zs P p =
    subst (λ is. P (tokens_of at is)) (append_assoc xs ys zs) (subst P (sym (tokens_append at (xs ++ ys) zs)) p)

closed_row : (h : Expr) (xs : Exprs) (at : ℕ) (gap : Gap) → Forms h → AllForms xs → RowAt (tokens_of at (head_items h ++ args_items false xs gap)) h xs
unfolding expr_items
closed_row h NoArgs at gap f fs = subst (λ is. RowAt (tokens_of at is) h NoArgs) (sym (append-nil (head_items h))) (head_at h at f)
closed_row h (ThenArg xs e) at gap f fs =
    let bare : Bool = is_word e || (false && is_binding e) in
    let front : List Item = head_items h ++ args_items false xs space in
    behind_row at (head_items h) (args_items false xs space) (placed bare (expr_items true e gap) (expr_items true e tight) gap) (λ ts. RowAt ts h (ThenArg xs e))
    (row_more (closed_row h xs at space f fs.0) (arg_at e bare (end_of at front) gap (only_word (is_word e) (is_binding e)) fs.1))

-- a row that may end in a binding
free_row : (s : Span) (h : Expr) (xs : Exprs) (e : Expr) (at : ℕ) (gap : Gap) → Forms h → AllForms xs → Forms e
    → AtomsAt (tokens_of at (expr_items true (AppExpr s h (ThenArg xs e)) gap)) (AppExpr s h (ThenArg xs e)) ⊎ LastAt (tokens_of at (expr_items true (AppExpr s h (ThenArg xs e)) gap)) (AppExpr s h (ThenArg xs e))
unfolding expr_items
free_row s h xs e at gap f fs g = by (is_binding e) refl
  where
    front : List Item
    front = head_items h ++ args_items false xs space

    by : (b : Bool) → is_binding e ≡ b → AtomsAt (tokens_of at (head_items h ++ (args_items false xs space ++ placed (is_word e || (true && is_binding e)) (expr_items true e gap) (expr_items true e tight) gap))) (AppExpr s h (ThenArg xs e))
        ⊎ LastAt (tokens_of at (head_items h ++ (args_items false xs space ++ placed (is_word e || (true && is_binding e)) (expr_items true e gap) (expr_items true e tight) gap))) (AppExpr s h (ThenArg xs e))
    by true k =
        inr (behind_row at (head_items h) (args_items false xs space) (placed (is_word e || (true && is_binding e)) (expr_items true e gap) (expr_items true e tight) gap) (λ ts. LastAt ts (AppExpr s h (ThenArg xs e)))
        (row_binding s (closed_row h xs at space f fs)
        (subst (λ (t : Bool). BindingAt (tokens_of (end_of at front) (placed t (expr_items true e gap) (expr_items true e tight) gap)) e) (sym (or_right (is_word e) (is_binding e) k)) (g.binding k (end_of at front) gap))))
    by false k =
        inl (behind_row at (head_items h) (args_items false xs space) (placed (is_word e || (true && is_binding e)) (expr_items true e gap) (expr_items true e tight) gap) (λ ts. AtomsAt ts (AppExpr s h (ThenArg xs e)))
        (row_atoms s (row_more (closed_row h xs at space f fs)
        (arg_at e (is_word e || (true && is_binding e)) (end_of at front) gap (λ t. word_left (is_word e) (is_binding e) t k) g))))

app_forms : (s : Span) (h : Expr) (xs : Exprs) → HasArgs xs → Forms h → AllForms xs → Forms (AppExpr s h xs)
unfolding expr_items
app_forms s h NoArgs some f fs = absurd some
app_forms s h (ThenArg xs e) some f fs =
    of_application s h (ThenArg xs e) (λ at gap. row_atoms s (closed_row h (ThenArg xs e) at gap f fs)) (λ at gap. free_row s h xs e at gap f fs.0 fs.1)

-- ---- arrows

not_back : (b : Bool) → (if b then false else true) ≡ true → b ≡ false
not_back true h = sym h
not_back false h = refl

arrow_form : (s : Span) (a b : Expr) (free : Bool) (at : ℕ) (gap : Gap) → Forms a → Forms b → ArrowsAt (tokens_of at (expr_items free (ArrowExpr s a b) gap)) (ArrowExpr s a b)
unfolding tokens_of text_of expr_items
arrow_form s a b free at gap f g =
    let left : List Item = placed (is_operand a) (expr_items false a space) (expr_items true a tight) space in
    let right : List Item = placed (if is_back b then false else true) (expr_items true b gap) (expr_items true b tight) gap in
    let sign_place : ℕ = end_of at left in
    subst (λ ts. ArrowsAt ts (ArrowExpr s a b)) (sym (tokens_append at left (arrow_item ∷ right)))
    (arrow_at s (record { from = sign_place; to = sign_place + 2 })
    (placed_atoms (is_operand a) at (expr_items false a space) (expr_items true a tight) space a (λ k. f.operand k at space) (λ place. f.whole place tight))
    (placed_arrows (if is_back b then false else true) (sign_place + 2 + 1) (expr_items true b gap) (expr_items true b tight) gap b (λ k. g.rows (not_back (is_back b) k) (sign_place + 2 + 1) gap) (λ place. g.whole place tight)))

arrow_forms : (s : Span) (a b : Expr) → Forms a → Forms b → Forms (ArrowExpr s a b)
arrow_forms s a b f g = record {
  whole = λ at gap. arrows_at (arrow_form s a b true at gap f g);
  word = λ k at gap. absurd (true≢false (sym k));
  operand = λ k at gap. absurd (true≢false (sym k));
  binding = λ k at gap. absurd (true≢false (sym k));
  rows = λ k at gap. arrow_form s a b true at gap f g;
  front = λ k at gap. absurd (true≢false (sym k));
  tail = λ k at gap. absurd (true≢false (sym k));
}

-- ---- back arrows

left_at : (b : Expr) (at : ℕ) → Forms b → FrontAt (tokens_of at (placed (is_operand b || is_back b) (expr_items false b space) (expr_items true b tight) space)) b
left_at b at f =
    placed_front (is_operand b || is_back b) at (expr_items false b space) (expr_items true b tight) space b
    (λ k. ⊎_elim (λ o. atoms_front (f.operand o at space)) (λ t. f.front t at space) (or_cases (is_operand b) (is_back b) k)) (λ place. f.whole place tight)

right_at : (b a row : Expr) (r : Span) (at : ℕ) (gap : Gap) → bare_expr row ≡ bare_expr b → Forms a
    → TailAt r row (tokens_of at (placed (is_last_operand a) (expr_items true a gap) (expr_items true a tight) gap)) b a
right_at b a row r at gap h f = by (is_last_operand a) (λ k. or_cases (is_operand a) (is_binding a) k)
  where
    by : (t : Bool) → (t ≡ true → (is_operand a ≡ true) ⊎ (is_binding a ≡ true)) → TailAt r row (tokens_of at (placed t (expr_items true a gap) (expr_items true a tight) gap)) b a
    by true k = ⊎_elim (λ o. ⊎_elim (λ x. atoms_tail h x) (λ x. last_tail h x) (f.tail o at gap)) (λ t. last_tail h (binding_at (f.binding t at gap))) (k refl)
    by false k = atoms_tail h (atom_at (enclosed_at at (expr_items true a tight) gap a (λ place. f.whole place tight)))

back_forms : (s : Span) (b a : Expr) → Forms b → Forms a → Forms (BackExpr s b a)
unfolding tokens_of text_of expr_items
back_forms s b a f g = record {
  whole = λ at gap. whole at gap;
  word = λ k at gap. absurd (true≢false (sym k));
  operand = λ k at gap. absurd (true≢false (sym k));
  binding = λ k at gap. absurd (true≢false (sym k));
  rows = λ k at gap. absurd (true≢false k);
  front = λ k at gap. front at gap;
  tail = λ k at gap. absurd (true≢false (sym k));
}
  where
    left : List Item
    left = placed (is_operand b || is_back b) (expr_items false b space) (expr_items true b tight) space

    whole : (at : ℕ) (gap : Gap) → ExprAt (tokens_of at (expr_items true (BackExpr s b a) gap)) (BackExpr s b a)
    whole at gap =
        let row = left_at b at f in
        subst (λ ts. ExprAt ts (BackExpr s b a)) (sym (tokens_append at left (back_item ∷ placed (is_last_operand a) (expr_items true a gap) (expr_items true a tight) gap)))
        (back_at s (record { from = end_of at left; to = end_of at left + 2 }) row (right_at b a row.row row.span (end_of at left + 2 + 1) gap row.same g))

    front : (at : ℕ) (gap : Gap) → FrontAt (tokens_of at (expr_items false (BackExpr s b a) gap)) (BackExpr s b a)
    front at gap =
        subst (λ ts. FrontAt ts (BackExpr s b a)) (sym (tokens_append at left (back_item ∷ placed (is_operand a) (expr_items false a gap) (expr_items true a tight) gap)))
        (front_more s (record { from = end_of at left; to = end_of at left + 2 }) (left_at b at f)
        (placed_atoms (is_operand a) (end_of at left + 2 + 1) (expr_items false a gap) (expr_items true a tight) gap a (λ k. g.operand k (end_of at left + 2 + 1) gap) (λ place. g.whole place tight)))

-- ---- every expression

mutual
  unfolding expr_items

  pub forms : (e : Expr) → IsWellWritten e → Forms e
  forms (TypeExpr s) w = of_word (TypeExpr s) refl refl refl (λ free at gap. type_at s at gap)
  forms (NameExpr s p) w = of_word (NameExpr s p) refl refl refl (λ free at gap. name_at s p at gap)
  forms (AppExpr s h xs) w = app_forms s h xs w.some (forms h w.head) (all_forms xs w.args)
  forms (PiExpr s x a b) w = of_binding (PiExpr s x a b) refl refl refl (λ at gap. pi_at s x a b at gap (forms a w.domain) (forms b w.body))
  forms (LamExpr s x b) w = of_binding (LamExpr s x b) refl refl refl (λ at gap. lam_at s x b at gap (forms b w.body))
  forms (TypedLamExpr s x a b) w = of_binding (TypedLamExpr s x a b) refl refl refl (λ at gap. typed_lam_at s x a b at gap (forms a w.domain) (forms b w.body))
  forms (ArrowExpr s a b) w = arrow_forms s a b (forms a w.domain) (forms b w.body)
  forms (BackExpr s b a) w = back_forms s b a (forms b w.body) (forms a w.domain)

  pub all_forms : (xs : Exprs) → AreWellWritten xs → AllForms xs
  all_forms NoArgs w = tt
  all_forms (ThenArg xs e) w = (all_forms xs w.0, forms e w.1)
