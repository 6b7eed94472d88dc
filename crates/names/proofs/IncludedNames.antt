-- Names of included theories, taken one after another.
use Rattle.std.proofs.Common.{◌≡◌, ℕ, ◌+◌, ◌<◌, ◌≤◌, length, take, get_or, arith, Bool, true, false, cond, ◌||◌, List, [], ◌∷◌, ◌++◌, refl, sym, ap, ◌∙◌}
use Rattle.std.specs.List.{list_any}
use Rattle.std.proofs.Math.Bool.{or-false, or_assoc}
use Rattle.std.proofs.lemmas.List.{take_more}
use Rattle.std.proofs.Math.Seq.{take-length}
use Rattle.indexmap.specs.IndexSet.{insert_key}
use Rattle.name_meaning.specs.Names.{Name, same_name, is_among}
use Rattle.name_laws.proofs.Order.{same_sound}
use Rattle.library_meaning.specs.Closure.{sees}
use Rattle.names.specs.IncludedTables.{HasTheories}

pub all_taken : {A : Type 0} (xs : List A) (count : ℕ) → length xs ≤ count → count ≤ length xs → take count xs ≡ xs
all_taken xs count past within =
    let whole : count ≡ length xs = omega (arith, past, within) in
    ap (λ n. take n xs) whole ∙ take-length xs

among_more : (names : List Name) (name other : Name) → is_among (names ++ name ∷ []) other ≡ (is_among names other || same_name other name)
unfolding is_among
among_more [] name other = or-false (same_name other name)
among_more (first ∷ names) name other = ap (λ b. same_name other first || b) (among_more names name other) ∙ sym (or_assoc (same_name other first) (is_among names other) (same_name other name))

-- a name of the list is no new name
old_name : (names : List Name) (name other : Name) → is_among names name ≡ true → (is_among names other || same_name other name) ≡ is_among names other
old_name names name other h = by (is_among names other) (same_name other name) refl refl
  where
    by : (a b : Bool) → is_among names other ≡ a → same_name other name ≡ b → (a || b) ≡ a
    by true b e f = refl
    by false true e f = absurd (let same : other ≡ name = same_sound other name f in let one : is_among names other ≡ true = ap (is_among names) same ∙ h in cc)
    by false false e f = refl

behind : (keys names : List Name) (name : Name) → HasTheories keys names → HasTheories (insert_key same_name keys name) (names ++ name ∷ [])
unfolding is_among
behind keys names name same other = by (list_any (same_name name) keys) refl
  where
    by : (b : Bool) → list_any (same_name name) keys ≡ b → is_among (cond b keys (keys ++ name ∷ [])) other ≡ is_among (names ++ name ∷ []) other
    by true e = same other ∙ sym (old_name names name other (sym (same name) ∙ e)) ∙ sym (among_more names name other)
    by false e = among_more keys name other ∙ ap (λ b. b || same_name other name) (same other) ∙ sym (among_more names name other)

-- one name more
pub one_more : (keys names : List Name) (count : ℕ) (name : Name) → count < length names → name ≡ get_or names count name → HasTheories keys (take count names)
    → HasTheories (insert_key same_name keys name) (take (count + 1) names)
one_more keys names count name within here same other =
    behind keys (take count names) name same other ∙ ap (λ ns. sees ns other) (sym (take_more names count name within ∙ ap (λ n. take count names ++ n ∷ []) (sym here)))

pub among_same : (keys names : List Name) (name : Name) → HasTheories keys names → list_any (same_name name) keys ≡ sees names name
unfolding is_among
among_same keys names name same = same name
