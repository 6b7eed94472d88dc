-- What is left of a list that is gone through, and the first element of one that has some.
use Rattle.std.proofs.Common.{◌≡◌, ℕ, suc, ◌+◌, ◌-◌, ◌<◌, ◌≤◌, List, [], ◌∷◌, length, take, drop, get_or, refl, sym, ap, ◌∙◌, arith, add-one}
use Rattle.std.proofs.Math.Seq.{drop-cons, take-length}

module _ {A : Type 0} where
  pub left : (xs : List A) (i : ℕ) (x : A) → i < length xs → x ≡ get_or xs i x → drop i xs ≡ x ∷ drop (i + 1) xs
  left xs i x within here = rw add-one (drop-cons xs i x within ∙ ap (λ y. y ∷ drop (suc i) xs) (sym here))

  -- What stands behind the first element.
  pub behind_first : (xs : List A) → take (length xs - 1) (drop 1 xs) ≡ drop 1 xs
  behind_first [] = refl
  behind_first (x ∷ xs) =
      let counted : length (x ∷ xs) - 1 ≡ length xs = omega arith in
      ap (λ n. take n xs) counted ∙ take-length xs

  -- The first element, and what stands behind it.
  pub first_and_rest : (xs : List A) (x : A) → 1 ≤ length xs → x ≡ get_or xs 0 x → xs ≡ x ∷ take (length xs - 1) (drop 1 xs)
  first_and_rest [] x some here = absurd (omega (arith, some))
  first_and_rest (y ∷ xs) x some here = λ i. sym here i ∷ sym (behind_first (y ∷ xs)) i
