-- What holds at each place of two halves, and of the whole.
use Rattle.std.proofs.Common.{◌≡◌, ℕ, ◌+◌, ◌-◌, List, ◌++◌, length, get_or, refl, sym, ap, ◌∙◌, subst, arith, length-append, ⊎_elim}
use Rattle.std.proofs.lemmas.Bool.{cases_lt}
use Rattle.std.proofs.lemmas.List.{get_or_append_left, get_or-append_right}
use Rattle.worker_crew.specs.Places.{HoldsFrom, ChangesFrom}

pub moved : {X : Type 0} (R : ℕ → X → X → Type 0) {i j : ℕ} {x x' y y' : X} → i ≡ j → x ≡ x' → y ≡ y' → R i x y → R j x' y'
moved R {i} {j} {x} {x'} {y} {y'} a b c r = subst (λ k. R k x' y') a (subst (λ u. R i u y') b (subst (R i x) c r))

module _ {X : Type 0} (base : ℕ) (whole low high : List X) (cut : whole ≡ low ++ high) where
  at_high : (k : ℕ) (d : X) → get_or (low ++ high) (length low + k) d ≡ get_or high k d
  at_high k d =
      let rest : length low + k - length low ≡ k = omega arith in
      get_or-append_right low high (length low) (length low + k) d refl (omega arith) ∙ ap (λ n. get_or high n d) rest

  pub accepts_high : (P : ℕ → X → Type 0) (middle : ℕ) → middle ≡ base + length low → HoldsFrom P base whole → HoldsFrom P middle high
  accepts_high P middle at all k d lt =
      let many = ap length cut ∙ length-append low high in
      let place : base + (length low + k) ≡ middle + k = omega (arith, at) in
      subst (λ n. P n (get_or high k d)) place
      (subst (P (base + (length low + k))) (ap (λ z. get_or z (length low + k) d) cut ∙ at_high k d) (all (length low + k) d (omega (arith, many, lt))))

-- what changed in each half has changed in the whole
pub changes_both : {X : Type 0} (R : ℕ → X → X → Type 0) (base middle : ℕ) (whole low high low_after high_after : List X) → whole ≡ low ++ high → middle ≡ base + length low → length low_after ≡ length low
    → ChangesFrom R base low low_after → ChangesFrom R middle high high_after → ChangesFrom R base whole (low_after ++ high_after)
changes_both R base middle whole low high low_after high_after cut at same changes_low changes_high =
    let many = ap length cut ∙ length-append low high in
    record {
      at = λ k d lt. ⊎_elim
          (λ below. moved R refl (sym (ap (λ z. get_or z k d) cut ∙ get_or_append_left low high d k below)) (sym (get_or_append_left low_after high_after d k (omega (arith, same, below))))
          (changes_low.at k d below))
          (λ above.
          let rest = k - length low in
          let place : middle + rest ≡ base + k = omega (arith, at, above) in
          let before = ap (λ z. get_or z k d) cut ∙ get_or-append_right low high (length low) k d refl above in
          let after = get_or-append_right low_after high_after (length low) k d same above in
          moved R place (sym before) (sym after) (changes_high.at rest d (omega (arith, many, lt, above))))
          (cases_lt k (length low));
    }
