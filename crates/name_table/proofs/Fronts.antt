-- The first rows of a table are a table.
use Rattle.std.proofs.Common.{◌≡◌, ℕ, zero, suc, Bool, true, List, [], ◌∷◌, ◌++◌, take, map, slice_get, Some, refl, sym, ap, ◌∙◌, subst}
use Rattle.std.specs.List.{list_all}
use Rattle.std.proofs.lemmas.Bool.{and_parts, and_from}
use Rattle.name_meaning.specs.Names.{Name, comes_before, is_ascending}
use Rattle.name_meaning.specs.Rows.{Rows, row_names, IsTable}
use Rattle.list_laws.proofs.Places.{take_more}

all_front : {X : Type 0} (p : X → Bool) (xs : List X) (k : ℕ) → list_all p xs ≡ true → list_all p (take k xs) ≡ true
all_front p xs zero h = refl
all_front p [] (suc k) h = refl
all_front p (x ∷ xs) (suc k) h = let q = and_parts (p x) (list_all p xs) h in and_from (p x) (list_all p (take k xs)) q.0 (all_front p xs k q.1)

pub ascending_front : (names : List Name) (k : ℕ) → is_ascending names ≡ true → is_ascending (take k names) ≡ true
unfolding is_ascending
ascending_front names zero h = refl
ascending_front [] (suc k) h = refl
ascending_front (n ∷ names) (suc k) h =
    let q = and_parts (list_all (comes_before n) names) (is_ascending names) h in
    and_from (list_all (comes_before n) (take k names)) (is_ascending (take k names)) (all_front (comes_before n) names k q.0) (ascending_front names k q.1)

module _ {A : Type 0} where
  pub names_front : (rows : Rows A) (k : ℕ) → row_names (take k rows) ≡ take k (row_names rows)
  names_front rows zero = refl
  names_front [] (suc k) = refl
  names_front (row ∷ rows) (suc k) = ap (λ names. row.0 ∷ names) (names_front rows k)

  -- and with the next one they are again
  pub table_more : (rows : Rows A) (k : ℕ) (row : Name × A) → IsTable rows → slice_get rows k ≡ Some row → IsTable (take k rows ++ row ∷ [])
  table_more rows k row t h =
      subst IsTable (take_more rows k row h) (ap is_ascending (names_front rows (suc k)) ∙ ascending_front (row_names rows) (suc k) t)
