-- Raising and substitution at variables, over plain numbers and places in lists.
use Rattle.std.proofs.Common.{◌≡◌, ℕ, zero, suc, ◌+◌, ◌<◌, ◌≤◌, List, [], ◌∷◌, ◌++◌, length, refl, ap, ◌∙◌, ◌⊎◌, inl, inr, ⊎_elim, arith}
use Rattle.std.proofs.lemmas.Bool.Decides.{nat_tests}
use Rattle.std.proofs.lemmas.Bool.{cases_lt}
use Rattle.std.specs.Prelude.{slice_get}
use Rattle.lf_term_laws.proofs.Lookups.{get_behind}
use Rattle.lf_meaning.specs.Raising.{raised}

pub raised_zero : (n i : ℕ) → raised 0 n i ≡ i
raised_zero n i = grind (arith, nat_tests)

-- a second raising from within the first one's reach adds up
pub raised_twice : (k l n m i : ℕ) → n ≤ m → m ≤ n + k → raised l m (raised k n i) ≡ raised (k + l) n i
raised_twice k l n m i low high = grind (arith, nat_tests)

-- two raisings in either order
pub raised_swap : (k l n m p i : ℕ) → n ≤ m → p ≡ m + k → raised l p (raised k n i) ≡ raised k n (raised l m i)
raised_swap k l n m p i low e = grind (arith, nat_tests)

pub raised_below : (k n i : ℕ) → i < n → raised k n i ≡ i
raised_below k n i low = grind (arith, nat_tests)

pub raised_above : (k n i : ℕ) → n ≤ i → raised k n i ≡ i + k
raised_above k n i high = grind (arith, nat_tests)

pub raised_suc : (k p r i : ℕ) → r ≡ suc p → raised k r (suc i) ≡ suc (raised k p i)
raised_suc k p r i e = grind (arith, nat_tests)

pub raised_grows : (k p i n : ℕ) → n ≤ i → n ≤ raised k p i
raised_grows k p i n h = grind (arith, nat_tests)

-- a variable that was raised over the substituted one is not the substituted one
pub raised_over : (k p n i : ℕ) → p ≤ n → n ≤ p + k → ((i < p) × (raised (suc k) p i ≡ i) × (i < n) × (raised k p i ≡ i)) ⊎ ((p ≤ i) × (raised (suc k) p i ≡ suc (i + k)) × (n ≤ i + k) × (raised k p i ≡ i + k))
raised_over k p n i low high = ⊎_elim (λ h. inl (h, raised_below (suc k) p i h, omega arith, raised_below k p i h)) (λ h. inr (h, raised_above (suc k) p i h ∙ omega arith, omega arith, raised_above k p i h)) (cases_lt i p)

pub raised_suc_above : (k p i : ℕ) → p ≤ i → raised k p (suc i) ≡ suc (raised k p i)
raised_suc_above k p i h = grind (arith, nat_tests)

pub raised_over_depth : (k p n q i : ℕ) → p ≤ n → n ≤ i → q ≡ n + k → q ≤ raised k p i
raised_over_depth k p n q i low h e = grind (arith, nat_tests)

pub raised_stays : (k p n q i : ℕ) → i < n → q ≡ n + k → raised k p i < q
raised_stays k p n q i h e = grind (arith, nat_tests)

-- where a variable stands to the substituted one
pub data Position : ℕ → ℕ → Type 0 where
  below : {n i : ℕ} → i < n → Position n i
  at : {n : ℕ} → Position n n
  above : {n i : ℕ} → n ≤ i → Position n (suc i)

pub position : (n i : ℕ) → Position n i
position zero zero = at
position zero (suc i) = above (omega arith)
position (suc n) zero = below (omega arith)
position (suc n) (suc i) = next (position n i)
  where
    next : {n i : ℕ} → Position n i → Position (suc n) (suc i)
    next (below h) = below (omega arith)
    next at = at
    next (above h) = above (omega arith)

-- a place of a list into which a part was put
pub get_raised : {A : Type 0} (after mid before : List A) (i : ℕ) → slice_get (after ++ (mid ++ before)) (raised (length mid) (length after) i) ≡ slice_get (after ++ before) i
get_raised [] mid before i = get_behind mid before i (raised (length mid) 0 i) (raised_above (length mid) 0 i (omega arith))
get_raised (x ∷ after) mid before zero = ap (slice_get (x ∷ (after ++ (mid ++ before)))) (raised_below (length mid) (suc (length after)) 0 (omega arith))
get_raised (x ∷ after) mid before (suc i) = ap (slice_get (x ∷ (after ++ (mid ++ before)))) (raised_suc (length mid) (length after) (suc (length after)) i refl) ∙ get_raised after mid before i
