-- Tests of entries by the number that each carries: that of the pass that made it.
use Rattle.std.specs.Prelude.{ℕ, Bool, List, not, filter, nat_eq, nat_lt}
use Rattle.std.specs.List.{list_all}

module _ {Entry : Type 0} (number_of : Entry → ℕ) where
  -- each entry carries this number
  abbrev pub are_of : ℕ → List Entry → Bool
  are_of number entries = list_all (λ (entry : Entry). nat_eq number (number_of entry)) entries

  -- no entry carries this number
  abbrev pub are_of_others : ℕ → List Entry → Bool
  are_of_others number entries = list_all (λ (entry : Entry). not (nat_eq number (number_of entry))) entries

  -- each entry carries a number below this one
  abbrev pub are_below : ℕ → List Entry → Bool
  are_below made entries = list_all (λ (entry : Entry). nat_lt (number_of entry) made) entries

  -- the entries that carry this number, in order
  abbrev pub entries_of : ℕ → List Entry → List Entry
  entries_of number entries = filter (λ (entry : Entry). nat_eq number (number_of entry)) entries
