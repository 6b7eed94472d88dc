-- The rule of the lock holds when it is made.
use Rattle.std.proofs.Common.{◌≡◌, ℕ, zero, suc, ◌+◌, ◌<◌, ◌≤◌, Bool, true, false, List, [], ◌∷◌, length, refl, sym, ap, subst, arith, inl, Some}
use Rattle.std.specs.Prelude.{nat_eq, nat_lt}
use Rattle.std.specs.List.{sum_by}
use Rattle.std.proofs.lemmas.List.{append-nil}
use Rattle.std.proofs.lemmas.List.Sums.{sum_by-cons}
use Rattle.std.proofs.lemmas.Bool.Decides.{nat_tests}
use mathlib.Core.Option.{some, some-injective, some-ne-none}
use lib.ListN.{get_elem?}
use Rattle.atomic_table.specs.Table.{opening}
use Rattle.turn_meaning.specs.Numbers.{are_of, are_below}
use Rattle.turn_lock.specs.declared.view.View.{View}
use Rattle.turn_lock.specs.Views.{first_view}
use Rattle.turn_lock.specs.Rule.{times_in, Fits, IsKept}
use Rattle.turn_lock.proofs.Entries.{both}
use Rattle.turn_lock.proofs.Keeping.{one_if}
use Rattle.list_laws.proofs.Booleans.{and_second, and_first}

zero_below : (n : ℕ) → nat_eq 0 n ≡ true → nat_lt n 1 ≡ true
zero_below n h = grind (arith, nat_tests)

module _ {E : Type 0} (number_of : E → ℕ) where
  zeros_below : (entries : List E) → are_of number_of 0 entries ≡ true → are_below number_of 1 entries ≡ true
  zeros_below [] h = refl
  zeros_below (e ∷ es) h = both _ _ (zero_below (number_of e) (and_first _ _ h)) (zeros_below es (and_second _ _ h))

  first_fits : (entries : List E) → Fits number_of 0 0 1 entries (first_view entries)
  first_fits entries = record {
    turn = tt;
    own = record { later = []; begins = sym (append-nil entries); others = refl };
    other = record { later = entries; begins = refl; others = refl };
    whole = λ t. absurd (cc t);
    lives = λ t. absurd (cc t);
    keeps_made = λ js is. refl;
  }

  each_first : (v : View E) (P : View E → Type 0) → P v → (id : ℕ) (u : View E) → get_elem? (v ∷ []) id ≡ some u → P u
  each_first v P h zero u e = subst P (some-injective v u e) h
  each_first v P h (suc id) u e = absurd (some-ne-none u (sym e))

once : (b : Bool) → 0 + one_if b ≤ 1
once true = omega arith
once false = omega arith

is_zero : (n : ℕ) → 0 < one_if (nat_eq n 0) → n < 1
is_zero n h = grind (arith, nat_tests)

first_times : {E : Type 0} (n : ℕ) (entries : List E) → sum_by (times_in n) (first_view entries ∷ []) ≡ one_if (nat_eq n 0)
first_times n entries = omega (arith, sum_by-cons (times_in n) (first_view entries) [], sum_by-cons (λ (m : ℕ). one_if (nat_eq n m)) 0 [])

module _ {T E : Type 0} (entries_of : T → List E) (number_of : E → ℕ) where
  pub opens : (value : T) (count : ℕ) → are_of number_of 0 (entries_of value) ≡ true → count ≡ length (entries_of value)
      → IsKept entries_of number_of (opening (0 ∷ 0 ∷ count ∷ []) (Some value ∷ []) (first_view (entries_of value)))
  opens value count zeros is = record {
    ticket = 0;
    serving = 0;
    made = 1;
    history = entries_of value;
    words = ap (λ (n : ℕ). 0 ∷ 0 ∷ n ∷ []) is;
    fits = omega arith;
    tickets = refl;
    differ = λ own. omega arith;
    numbers_differ = λ n. let t = first_times n (entries_of value) in let u = once (nat_eq n 0) in omega arith;
    numbers_below = λ n h. let t = first_times n (entries_of value) in is_zero n (omega arith);
    entries_below = zeros_below number_of (entries_of value) zeros;
    each = each_first number_of (first_view (entries_of value)) (Fits number_of 0 0 1 (entries_of value)) (first_fits number_of (entries_of value));
    seen = record { id = 0; view = first_view (entries_of value); at = refl; all = inl (omega arith, refl) };
    value = inl (record { value = value; slot = refl; entries = refl; nobody = refl });
  }
