-- Tests of entries by their numbers.
use Rattle.std.proofs.Common.{◌≡◌, ℕ, ◌+◌, ◌<◌, Bool, true, false, List, [], ◌∷◌, ◌++◌, refl, sym, ◌∙◌, arith, cond, ◌&&◌}
use Rattle.std.specs.Prelude.{nat_eq, nat_lt, not}
use Rattle.std.specs.List.{list_all, count_by}
use Rattle.std.proofs.lemmas.List.Sums.{sum_by-cons}
use Rattle.std.proofs.lemmas.List.Folds.{list_all-append}
use Rattle.std.proofs.lemmas.Bool.Decides.{nat_tests}
use Rattle.turn_meaning.specs.Numbers.{are_of_others, are_below}
use Rattle.list_laws.proofs.Booleans.{and_second, and_first}

pub both : (a b : Bool) → a ≡ true → b ≡ true → (a && b) ≡ true
both true true p q = refl
both true false p q = q
both false b p q = p

module _ {E : Type 0} (number_of : E → ℕ) where
  -- a beginning and an end of entries of others, or below a number
  pub others_behind : (number : ℕ) (xs ys : List E) → are_of_others number_of number (xs ++ ys) ≡ true → are_of_others number_of number ys ≡ true
  others_behind number xs ys h = and_second _ _ (sym (list_all-append (λ (e : E). not (nat_eq number (number_of e))) xs ys) ∙ h)

  pub others_before : (number : ℕ) (xs ys : List E) → are_of_others number_of number (xs ++ ys) ≡ true → are_of_others number_of number xs ≡ true
  others_before number xs ys h = and_first _ _ (sym (list_all-append (λ (e : E). not (nat_eq number (number_of e))) xs ys) ∙ h)

  pub below_behind : (made : ℕ) (xs ys : List E) → are_below number_of made (xs ++ ys) ≡ true → are_below number_of made ys ≡ true
  below_behind made xs ys h = and_second _ _ (sym (list_all-append (λ (e : E). nat_lt (number_of e) made) xs ys) ∙ h)

  pub below_before : (made : ℕ) (xs ys : List E) → are_below number_of made (xs ++ ys) ≡ true → are_below number_of made xs ≡ true
  below_before made xs ys h = and_first _ _ (sym (list_all-append (λ (e : E). nat_lt (number_of e) made) xs ys) ∙ h)

  pub below_push : (made : ℕ) (xs : List E) (e : E) → are_below number_of made xs ≡ true → number_of e < made → are_below number_of made (xs ++ e ∷ []) ≡ true
  below_push made [] e h lt = grind (arith, nat_tests)
  below_push made (x ∷ xs) e h lt = both _ _ (and_first _ _ h) (below_push made xs e (and_second _ _ h) lt)

  below_step : (a made : ℕ) → nat_lt a made ≡ true → nat_lt a (made + 1) ≡ true
  below_step a made h = grind (arith, nat_tests)

  pub below_more : (made : ℕ) (xs : List E) → are_below number_of made xs ≡ true → are_below number_of (made + 1) xs ≡ true
  below_more made [] h = refl
  below_more made (x ∷ xs) h = both _ _ (below_step (number_of x) made (and_first _ _ h)) (below_more made xs (and_second _ _ h))

  not_own : (a made : ℕ) → nat_lt a made ≡ true → not (nat_eq made a) ≡ true
  not_own a made h = grind (arith, nat_tests)

  -- entries below a number do not carry it
  pub below_others : (made : ℕ) (xs : List E) → are_below number_of made xs ≡ true → are_of_others number_of made xs ≡ true
  below_others made [] h = refl
  below_others made (x ∷ xs) h = both _ _ (not_own (number_of x) made (and_first _ _ h)) (below_others made xs (and_second _ _ h))

  others_push : (number : ℕ) (xs : List E) (e : E) → are_of_others number_of number xs ≡ true → not (nat_eq number (number_of e)) ≡ true → are_of_others number_of number (xs ++ e ∷ []) ≡ true
  others_push number [] e h n = both _ _ n refl
  others_push number (x ∷ xs) e h n = both _ _ (and_first _ _ h) (others_push number xs e (and_second _ _ h) n)

  not_carried : (number own rest : ℕ) → cond (nat_eq own number) 1 0 + rest ≡ 0 → not (nat_eq number own) ≡ true
  not_carried number own rest h = grind (arith, nat_tests)

  none_carried : (b : Bool) (rest : ℕ) → cond b 1 0 + rest ≡ 0 → rest ≡ 0
  none_carried true rest h = absurd (omega arith)
  none_carried false rest h = omega arith

  -- no later entry carries one of these numbers
  abbrev pub AreAbsent : List E → List ℕ → Type 0
  AreAbsent later numbers = list_all (λ (number : ℕ). are_of_others number_of number later) numbers ≡ true

  pub absent_none : (numbers : List ℕ) → AreAbsent [] numbers
  absent_none [] = refl
  absent_none (n ∷ ns) = absent_none ns

  pub absent_push : (later : List E) (e : E) (numbers : List ℕ) → AreAbsent later numbers → count_by (nat_eq (number_of e)) numbers ≡ 0 → AreAbsent (later ++ e ∷ []) numbers
  absent_push later e [] h none = refl
  absent_push later e (n ∷ ns) h none =
      let c : cond (nat_eq (number_of e) n) 1 0 + count_by (nat_eq (number_of e)) ns ≡ 0 = sym (sum_by-cons (λ (m : ℕ). cond (nat_eq (number_of e) m) 1 0) n ns) ∙ none in
      both _ _ (others_push n later e (and_first _ _ h) (not_carried n (number_of e) (count_by (nat_eq (number_of e)) ns) c)) (absent_push later e ns (and_second _ _ h) (none_carried (nat_eq (number_of e) n) _ c))

  pub absent_behind : (xs ys : List E) (numbers : List ℕ) → AreAbsent (xs ++ ys) numbers → AreAbsent ys numbers
  absent_behind xs ys [] h = refl
  absent_behind xs ys (n ∷ ns) h = both _ _ (others_behind n xs ys (and_first _ _ h)) (absent_behind xs ys ns (and_second _ _ h))

  pub absent_before : (xs ys : List E) (numbers : List ℕ) → AreAbsent (xs ++ ys) numbers → AreAbsent xs numbers
  absent_before xs ys [] h = refl
  absent_before xs ys (n ∷ ns) h = both _ _ (others_before n xs ys (and_first _ _ h)) (absent_before xs ys ns (and_second _ _ h))

  pub absent_append : (later : List E) (numbers more : List ℕ) → AreAbsent later numbers → AreAbsent later more → AreAbsent later (numbers ++ more)
  absent_append later [] more h k = k
  absent_append later (n ∷ ns) more h k = both _ _ (and_first _ _ h) (absent_append later ns more (and_second _ _ h) k)
