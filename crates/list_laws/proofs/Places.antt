-- Places in lists.
use Rattle.std.proofs.Common.{◌≡◌, ℕ, zero, suc, ◌+◌, ◌<◌, ◌≤◌, List, [], ◌∷◌, ◌++◌, length, take, drop, slice_get, get_or, Some, None, ◌⊎◌, inl, inr, refl, ap, ◌∙◌, arith, drop-cons}

module _ {A : Type 0} where
  pub place_within : (xs : List A) (i : ℕ) (x : A) → slice_get xs i ≡ Some x → i < length xs
  place_within [] i x h = absurd (cc)
  place_within (y ∷ ys) zero x h = omega arith
  place_within (y ∷ ys) (suc i) x h = let e = place_within ys i x h in omega (arith, e)

  pub get_front : (xs ys : List A) (i : ℕ) → i < length xs → slice_get (xs ++ ys) i ≡ slice_get xs i
  get_front [] ys i h = absurd (omega (arith, h))
  get_front (x ∷ xs) ys zero h = refl
  get_front (x ∷ xs) ys (suc i) h = get_front xs ys i (omega (arith, h))

  pub get_last : (xs : List A) (x : A) → slice_get (xs ++ x ∷ []) (length xs) ≡ Some x
  get_last [] x = refl
  get_last (y ∷ xs) x = get_last xs x

  -- a place of a list with one more element is one of the list's, or the last
  pub get_more : (xs : List A) (x y : A) (i : ℕ) → slice_get (xs ++ x ∷ []) i ≡ Some y → (slice_get xs i ≡ Some y) ⊎ ((i ≡ length xs) × (x ≡ y))
  get_more [] x y zero h = inr (refl, cc)
  get_more [] x y (suc i) h = absurd (cc)
  get_more (z ∷ xs) x y zero h = inl h
  get_more (z ∷ xs) x y (suc i) h = by (get_more xs x y i h)
    where
      by : (slice_get xs i ≡ Some y) ⊎ ((i ≡ length xs) × (x ≡ y)) → (slice_get xs i ≡ Some y) ⊎ ((suc i ≡ suc (length xs)) × (x ≡ y))
      by (inl e) = inl e
      by (inr e) = inr (ap suc e.0, e.1)

  pub take_front : (xs ys : List A) (i : ℕ) → i ≤ length xs → take i (xs ++ ys) ≡ take i xs
  take_front xs ys zero h = refl
  take_front [] ys (suc i) h = absurd (omega (arith, h))
  take_front (x ∷ xs) ys (suc i) h = ap (λ z. x ∷ z) (take_front xs ys i (omega (arith, h)))

  pub take_length : (xs : List A) → take (length xs) xs ≡ xs
  take_length [] = refl
  take_length (x ∷ xs) = ap (λ z. x ∷ z) (take_length xs)

  pub length_take : (xs : List A) (i : ℕ) → i ≤ length xs → length (take i xs) ≡ i
  length_take xs zero h = refl
  length_take [] (suc i) h = absurd (omega (arith, h))
  length_take (x ∷ xs) (suc i) h = ap suc (length_take xs i (omega (arith, h)))

  pub drop_front : (xs ys : List A) (i : ℕ) → i ≤ length xs → drop i (xs ++ ys) ≡ drop i xs ++ ys
  drop_front xs ys zero h = refl
  drop_front [] ys (suc i) h = absurd (omega (arith, h))
  drop_front (x ∷ xs) ys (suc i) h = drop_front xs ys i (omega (arith, h))

  -- the element at a place, with what stands before and behind it
  pub split_at : (xs : List A) (i : ℕ) (x : A) → slice_get xs i ≡ Some x → xs ≡ take i xs ++ x ∷ drop (suc i) xs
  split_at [] i x h = absurd (cc)
  split_at (y ∷ ys) zero x h = let e : y ≡ x = cc in ap (λ z. z ∷ ys) e
  split_at (y ∷ ys) (suc i) x h = ap (λ z. y ∷ z) (split_at ys i x h)

  pub take_more : (xs : List A) (i : ℕ) (x : A) → slice_get xs i ≡ Some x → take (suc i) xs ≡ take i xs ++ x ∷ []
  take_more [] i x h = absurd (cc)
  take_more (y ∷ ys) zero x h = let e : y ≡ x = cc in ap (λ z. z ∷ []) e
  take_more (y ∷ ys) (suc i) x h = ap (λ z. y ∷ z) (take_more ys i x h)

  pub take_take : (xs : List A) (i j : ℕ) → i ≤ j → take i (take j xs) ≡ take i xs
  take_take xs zero j h = refl
  take_take xs (suc i) zero h = absurd (omega (arith, h))
  take_take [] (suc i) (suc j) h = refl
  take_take (x ∷ xs) (suc i) (suc j) h = ap (λ z. x ∷ z) (take_take xs i j (omega (arith, h)))

  -- the beginning of a list up to a place, and from there up to a later one
  pub take_parts : (xs : List A) (i j : ℕ) → i ≤ j → take j xs ≡ take i xs ++ drop i (take j xs)
  take_parts xs zero j h = refl
  take_parts xs (suc i) zero h = absurd (omega (arith, h))
  take_parts [] (suc i) (suc j) h = refl
  take_parts (x ∷ xs) (suc i) (suc j) h = ap (λ z. x ∷ z) (take_parts xs i j (omega (arith, h)))

  pub drop_parts : (xs : List A) (i j : ℕ) → i ≤ j → drop i xs ≡ drop i (take j xs) ++ drop j xs
  drop_parts xs zero zero h = refl
  drop_parts xs (suc i) zero h = absurd (omega (arith, h))
  drop_parts [] i j h = refl
  drop_parts (x ∷ xs) zero (suc j) h = ap (λ z. x ∷ z) (drop_parts xs zero j (omega arith))
  drop_parts (x ∷ xs) (suc i) (suc j) h = drop_parts xs i j (omega (arith, h))

  pub take_past : (xs : List A) (i : ℕ) → slice_get xs i ≡ None → take (suc i) xs ≡ take i xs
  take_past [] zero h = refl
  take_past [] (suc i) h = refl
  take_past (y ∷ ys) zero h = absurd (cc)
  take_past (y ∷ ys) (suc i) h = ap (λ z. y ∷ z) (take_past ys i h)

  pub drop_here : (xs : List A) (i : ℕ) (x : A) → slice_get xs i ≡ Some x → drop i xs ≡ x ∷ drop (suc i) xs
  drop_here [] i x h = absurd (cc)
  drop_here (y ∷ ys) zero x h = let e : y ≡ x = cc in ap (λ z. z ∷ ys) e
  drop_here (y ∷ ys) (suc i) x h = drop_here ys i x h

  pub get_take : (xs : List A) (i p : ℕ) → i < p → slice_get (take p xs) i ≡ slice_get xs i
  get_take xs i zero h = absurd (omega (arith, h))
  get_take [] i (suc p) h = refl
  get_take (x ∷ xs) zero (suc p) h = refl
  get_take (x ∷ xs) (suc i) (suc p) h = get_take xs i p (omega (arith, h))

  pub get_behind : (xs ys : List A) (i j : ℕ) → j ≡ length xs + i → slice_get (xs ++ ys) j ≡ slice_get ys i
  get_behind [] ys i j h = let e : j ≡ i = omega (arith, h) in ap (slice_get ys) e
  get_behind (x ∷ xs) ys i zero h = absurd (omega (arith, h))
  get_behind (x ∷ xs) ys i (suc j) h = get_behind xs ys i j (omega (arith, h))

  pub take_drop : (xs : List A) (i : ℕ) → take i xs ++ drop i xs ≡ xs
  take_drop xs zero = refl
  take_drop [] (suc i) = refl
  take_drop (x ∷ xs) (suc i) = ap (λ z. x ∷ z) (take_drop xs i)

-- what stands at a place of a text, and what stands behind it
pub here_and_on : (text : List ℕ) (at : ℕ) → at < length text → drop at text ≡ get_or text at 0 ∷ drop (at + 1) text
here_and_on text at h = let n : suc at ≡ at + 1 = omega arith in drop-cons text at 0 h ∙ ap (λ n. get_or text at 0 ∷ drop n text) n
