-- Sums over a list of which one element changes.
use Rattle.std.proofs.Common.{◌≡◌, ◌≢◌, ℕ, zero, suc, ◌+◌, ◌<◌, ◌≤◌, List, [], ◌∷◌, length, set, refl, sym, ap, arith, ⊎_elim, subst}
use Rattle.std.specs.List.{sum_by}
use Rattle.std.proofs.lemmas.List.Sums.{sum_by-cons}
use mathlib.Core.Option.{some, some-injective, some-ne-none}
use lib.ListN.{get_elem?}
use Rattle.atomic_table.proofs.Lists.{at_set}

module _ {A : Type 0} where
  pub at_length : (l : List A) (i : ℕ) (a : A) → get_elem? l i ≡ some a → i < length l
  at_length [] i a e = absurd (some-ne-none a (sym e))
  at_length (x ∷ xs) zero a e = omega arith
  at_length (x ∷ xs) (suc i) a e = let h = at_length xs i a e in omega arith

  pub set_at : (l : List A) (i : ℕ) (a b : A) → get_elem? l i ≡ some a → get_elem? (set l i b) i ≡ some b
  set_at [] i a b e = absurd (some-ne-none a (sym e))
  set_at (x ∷ xs) zero a b e = refl
  set_at (x ∷ xs) (suc i) a b e = set_at xs i a b e

  -- what holds of the new element, and of the others still, holds of each
  pub each_set : (P : A → Type 0) (l : List A) (i : ℕ) (b : A) → P b → ((j : ℕ) (a : A) → j ≢ i → get_elem? l j ≡ some a → P a)
      → (j : ℕ) (a : A) → get_elem? (set l i b) j ≡ some a → P a
  each_set P l i b new others j a e = ⊎_elim (λ (t : (j ≡ i) × (b ≡ a)). subst P t.1 new) (λ (t : (j ≢ i) × (get_elem? l j ≡ some a)). others j a t.0 t.1) (at_set l i j b a e)

module _ {A : Type 0} (f : A → ℕ) where
  pub sum-set : (l : List A) (i : ℕ) (a b : A) → get_elem? l i ≡ some a → sum_by f (set l i b) + f a ≡ sum_by f l + f b
  sum-set [] i a b e = absurd (some-ne-none a (sym e))
  sum-set (x ∷ xs) zero a b e = let h : f x ≡ f a = ap f (some-injective x a e) in omega (arith, sum_by-cons f b xs, sum_by-cons f x xs)
  sum-set (x ∷ xs) (suc i) a b e = let h = sum-set xs i a b e in omega (arith, sum_by-cons f x (set xs i b), sum_by-cons f x xs)

  pub sum-at : (l : List A) (i : ℕ) (a : A) → get_elem? l i ≡ some a → f a ≤ sum_by f l
  sum-at [] i a e = absurd (some-ne-none a (sym e))
  sum-at (x ∷ xs) zero a e = let h : f x ≡ f a = ap f (some-injective x a e) in omega (arith, sum_by-cons f x xs)
  sum-at (x ∷ xs) (suc i) a e = let h = sum-at xs i a e in omega (arith, sum_by-cons f x xs)

  -- two elements at two places count both
  pub sum-two : (l : List A) (i j : ℕ) (a b : A) → get_elem? l i ≡ some a → get_elem? l j ≡ some b → j ≢ i → f a + f b ≤ sum_by f l
  sum-two [] i j a b e d n = absurd (some-ne-none a (sym e))
  sum-two (x ∷ xs) zero zero a b e d n = absurd (n refl)
  sum-two (x ∷ xs) zero (suc j) a b e d n = let h : f x ≡ f a = ap f (some-injective x a e) in let t = sum-at xs j b d in omega (arith, sum_by-cons f x xs)
  sum-two (x ∷ xs) (suc i) zero a b e d n = let h : f x ≡ f b = ap f (some-injective x b d) in let t = sum-at xs i a e in omega (arith, sum_by-cons f x xs)
  sum-two (x ∷ xs) (suc i) (suc j) a b e d n = let t = sum-two xs i j a b e d (λ h. n (ap suc h)) in omega (arith, sum_by-cons f x xs)

  pub sum-zero : (l : List A) → ((i : ℕ) (a : A) → get_elem? l i ≡ some a → f a ≡ 0) → sum_by f l ≡ 0
  sum-zero [] h = refl
  sum-zero (x ∷ xs) h = let t = sum-zero xs (λ i a e. h (suc i) a e) in let u = h 0 x refl in omega (arith, sum_by-cons f x xs)

  -- an element that counts where the whole counts no more is the only one
  pub sum-alone : (l : List A) (i j : ℕ) (a b : A) → get_elem? l i ≡ some a → 0 < f a → sum_by f l ≤ 1 → get_elem? l j ≡ some b → j ≢ i → f b ≡ 0
  sum-alone l i j a b e here most d n = let t = sum-two l i j a b e d n in omega arith

module _ {A : Type 0} (f g : A → ℕ) where
  pub sum-le : (l : List A) → ((i : ℕ) (a : A) → get_elem? l i ≡ some a → f a ≤ g a) → sum_by f l ≤ sum_by g l
  sum-le [] h = omega arith
  sum-le (x ∷ xs) h = let t = sum-le xs (λ i a e. h (suc i) a e) in let u = h 0 x refl in omega (arith, sum_by-cons f x xs, sum_by-cons g x xs)

  -- the same, less what one element leaves
  pub sum-le_but : (l : List A) (i : ℕ) (b : A) → get_elem? l i ≡ some b → ((j : ℕ) (a : A) → get_elem? l j ≡ some a → f a ≤ g a) → sum_by f l + g b ≤ sum_by g l + f b
  sum-le_but [] i b e h = absurd (some-ne-none b (sym e))
  sum-le_but (x ∷ xs) zero b e h = let p : f x ≡ f b = ap f (some-injective x b e) in let q : g x ≡ g b = ap g (some-injective x b e) in
      let t = sum-le xs (λ j a d. h (suc j) a d) in omega (arith, sum_by-cons f x xs, sum_by-cons g x xs)
  sum-le_but (x ∷ xs) (suc i) b e h = let t = sum-le_but xs i b e (λ j a d. h (suc j) a d) in let u = h 0 x refl in omega (arith, sum_by-cons f x xs, sum_by-cons g x xs)
