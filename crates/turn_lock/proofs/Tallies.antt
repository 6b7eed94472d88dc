-- How often numbers stand in a list, and how many of them are below a bound.
use Rattle.std.proofs.Common.{◌≡◌, ℕ, zero, suc, ◌+◌, ◌<◌, ◌≤◌, List, [], ◌∷◌, length, refl, sym, subst, arith}
use Rattle.std.specs.Prelude.{nat_eq, nat_lt}
use Rattle.std.specs.List.{count_by}
use Rattle.std.proofs.lemmas.Bool.Decides.{nat_tests}
use Rattle.std.proofs.lemmas.List.Sums.{sum_by-cons}
use mathlib.Core.Logic.{dite}
use native.Mathlib.Decide.{ℕ_discrete}
use Rattle.turn_lock.proofs.Keeping.{one_if, one_there}

pub count_first : (number other : ℕ) (ns : List ℕ) → number ≡ other → 0 < count_by (nat_eq number) (other ∷ ns)
count_first number other ns e = let t = one_there number other e in omega (arith, sum_by-cons (λ (m : ℕ). one_if (nat_eq number m)) other ns)

-- how many numbers of a list are below this one
abbrev pub tally : ℕ → List ℕ → ℕ
tally zero ns = 0
tally (suc m) ns = count_by (nat_eq m) ns + tally m ns

below_or_here : (m n : ℕ) → one_if (nat_lt n (suc m)) ≡ one_if (nat_eq m n) + one_if (nat_lt n m)
below_or_here m n = grind (arith, nat_tests)

tally_none : (m : ℕ) → tally m [] ≡ 0
tally_none zero = refl
tally_none (suc m) = let t = tally_none m in omega arith

none_below : (n : ℕ) → one_if (nat_lt n 0) ≡ 0
none_below n = grind (arith, nat_tests)

tally_first : (m n : ℕ) (ns : List ℕ) → tally m (n ∷ ns) ≡ one_if (nat_lt n m) + tally m ns
tally_first zero n ns = let t = none_below n in omega arith
tally_first (suc m) n ns = let t = tally_first m n ns in let b = below_or_here m n in omega (arith, sum_by-cons (λ (k : ℕ). one_if (nat_eq m k)) n ns)

is_below : (n m : ℕ) → n < m → one_if (nat_lt n m) ≡ 1
is_below n m lt = grind (arith, nat_tests)

pub tally_all : (m : ℕ) (ns : List ℕ) → ((n : ℕ) → 0 < count_by (nat_eq n) ns → n < m) → tally m ns ≡ length ns
tally_all m [] h = tally_none m
tally_all m (n ∷ ns) h =
    let rest = tally_all m ns (λ k some_there. h k (omega (arith, sum_by-cons (λ (j : ℕ). one_if (nat_eq k j)) n ns))) in
    let here = is_below n m (h n (count_first n n ns refl)) in
    omega (arith, tally_first m n ns)

tally_most : (m : ℕ) (ns : List ℕ) → ((n : ℕ) → count_by (nat_eq n) ns ≤ 1) → tally m ns ≤ m
tally_most zero ns h = omega arith
tally_most (suc m) ns h = let t = tally_most m ns h in let u = h m in omega arith

-- where as many numbers stand below m as there are, and none twice, each does
pub tally_each : (m : ℕ) (ns : List ℕ) → ((n : ℕ) → count_by (nat_eq n) ns ≤ 1) → tally m ns ≡ m → (n : ℕ) → n < m → 0 < count_by (nat_eq n) ns
tally_each zero ns h full n lt = absurd (omega arith)
tally_each (suc m) ns h full n lt =
    let t = tally_most m ns h in let u = h m in
    dite (ℕ_discrete n m) (λ e. subst (λ (k : ℕ). 0 < count_by (nat_eq k) ns) (sym e) (omega arith)) (λ ne. tally_each m ns h (omega arith) n (omega arith))

-- a list that is not empty has a number
pub some_number : (ns : List ℕ) → 0 < length ns → (n : ℕ) × (0 < count_by (nat_eq n) ns)
some_number [] lt = absurd (omega arith)
some_number (n ∷ ns) lt = (n, count_first n n ns refl)
