-- The first item of a list that passes a test.
use Rattle.std.proofs.Common.{◌≡◌, ℕ, ◌<◌, Bool, true, false, cond, List, length, get_or, Some, None, nat_lt, position, sym, ap, ◌∙◌, arith}
use Rattle.std.specs.List.{AllWithin, position_or_len}
use Rattle.std.proofs.lemmas.Bool.Decides.{nat_tests}
use Rattle.std.proofs.lemmas.List.Sums.{position_or_len_is}

below : (k l : ℕ) → k < l → nat_lt k l ≡ true
below k l h = grind (arith, nat_tests)

not_below_itself : (k : ℕ) → nat_lt k k ≡ false
not_below_itself k = grind (arith, nat_tests)

module _ {X : Type 0} (p : X → Bool) (xs : List X) where
  pub first_at : (i : ℕ) (d : X) → i < length xs → AllWithin (λ x. p x ≡ false) xs 0 i → p (get_or xs i d) ≡ true → Some i ≡ position p xs
  first_at i d h before here =
      let e : position_or_len p xs ≡ i = position_or_len_is p xs i d (omega (arith, h)) (λ k lt. before k d (omega arith) lt) (λ lt. here) in
      sym ((λ j. cond (nat_lt (e j) (length xs)) (Some (e j)) None) ∙ ap (λ b. cond b (Some i) None) (below i (length xs) h))

  pub none_at : (d : X) → AllWithin (λ x. p x ≡ false) xs 0 (length xs) → None ≡ position p xs
  none_at d before =
      let e : position_or_len p xs ≡ length xs = position_or_len_is p xs (length xs) d (omega arith) (λ k lt. before k d (omega arith) lt) (λ lt. absurd (omega (arith, lt))) in
      sym ((λ j. cond (nat_lt (e j) (length xs)) (Some (e j)) None) ∙ ap (λ b. cond b (Some (length xs)) None) (not_below_itself (length xs)))
