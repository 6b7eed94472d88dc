-- The first dependency that has one of some names, in lists that are made of parts.
use Rattle.std.proofs.Common.{◌≡◌, ℕ, ◌+◌, ◌<◌, ◌≤◌, Bool, true, false, cond, List, [], ◌∷◌, ◌++◌, map, length, get_or, drop, Option, Some, None, refl, sym, ap, ◌∙◌}
use Rattle.std.specs.Prelude.{find, flat_map}
use Rattle.std.proofs.lemmas.List.{at_drop_more, at_drop_all}

module _ {B : Type 0} (p : B → Bool) where
  -- What is found in the first part is found in the whole.
  pub in_first : (xs ys : List B) (b : B) → find p xs ≡ Some b → find p (xs ++ ys) ≡ Some b
  in_first [] ys b h = absurd (cc)
  in_first (x ∷ xs) ys b h = by (p x) (in_first xs ys b) h
    where
      by : (c : Bool) → (find p xs ≡ Some b → find p (xs ++ ys) ≡ Some b) → cond c (Some x) (find p xs) ≡ Some b → cond c (Some x) (find p (xs ++ ys)) ≡ Some b
      by true rest k = k
      by false rest k = rest k

  -- Where nothing is found there, the rest decides.
  pub in_rest : (xs ys : List B) → find p xs ≡ None → find p (xs ++ ys) ≡ find p ys
  in_rest [] ys h = refl
  in_rest (x ∷ xs) ys h = by (p x) (in_rest xs ys) h
    where
      by : (c : Bool) → (find p xs ≡ None → find p (xs ++ ys) ≡ find p ys) → cond c (Some x) (find p xs) ≡ None → cond c (Some x) (find p (xs ++ ys)) ≡ find p ys
      by true rest k = absurd (cc)
      by false rest k = rest k

  -- Part by part, from a place on.
  module _ {X A : Type 0} (read : X → A) (parts : A → List B) (xs : List X) (place : ℕ) (whole : Option B) (so_far : whole ≡ find p (flat_map parts (map read (drop place xs)))) where
    from_here : (x : X) → place < length xs → x ≡ get_or xs place x → whole ≡ find p (parts (read x) ++ flat_map parts (map read (drop (place + 1) xs)))
    from_here x within is =
        so_far ∙ at_drop_more (λ z. find p (flat_map parts (map read z))) xs place x within
        ∙ ap (λ z. find p (parts (read z) ++ flat_map parts (map read (drop (place + 1) xs)))) (sym is)

    pub found_here : (x : X) (found : Option B) (b : B) → place < length xs → x ≡ get_or xs place x → found ≡ Some b → found ≡ find p (parts (read x)) → Some b ≡ whole
    found_here x found b within is e h = sym (from_here x within is ∙ in_first (parts (read x)) (flat_map parts (map read (drop (place + 1) xs))) b (sym h ∙ e))

    pub none_here : (x : X) (found : Option B) → place < length xs → x ≡ get_or xs place x → found ≡ None → found ≡ find p (parts (read x)) → whole ≡ find p (flat_map parts (map read (drop (place + 1) xs)))
    none_here x found within is e h = from_here x within is ∙ in_rest (parts (read x)) (flat_map parts (map read (drop (place + 1) xs))) (sym h ∙ e)

    pub none_left : length xs ≤ place → None ≡ whole
    none_left past = sym (so_far ∙ at_drop_all (λ z. find p (flat_map parts (map read z))) xs place past)
