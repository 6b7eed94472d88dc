-- Look-up in rows in any order: by the test of a table, in rows that are read off others, and in rows with one more.
use Rattle.std.proofs.Common.{◌≡◌, Bool, true, false, cond, List, [], ◌∷◌, ◌++◌, map, Option, Some, None, ◌||◌, refl, sym, ap}
use Rattle.std.specs.Prelude.{option_map}
use Rattle.std.specs.Map.{lookup}
use Rattle.name_meaning.specs.Names.{Name, same_name, is_among}
use Rattle.name_meaning.specs.Rows.{Rows, row_of}
use Rattle.list_laws.proofs.Options.{mapped_by}
use Rattle.name_laws.proofs.Order.{same_sound}
use Rattle.name_laws.proofs.Rows.{other_branch, not_both}

module _ {A : Type 0} where
  -- a table with names as keys looks a row up by its test of names
  pub row_looked_up : (rows : Rows A) (n : Name) → row_of rows n ≡ lookup (same_name n) rows
  unfolding row_of
  row_looked_up [] n = refl
  row_looked_up (row ∷ rows) n = ap (cond (same_name n row.0) (Some row.1)) (row_looked_up rows n)

  first_other : (b : Bool) (x : A) (o : Option A) → cond b (Some x) o ≡ None → (b ≡ false) × (o ≡ None)
  first_other true x o h = absurd (cc)
  first_other false x o h = (refl, h)

  -- the row of a name after another, which was not there, is added behind all
  pub row_pushed : (rows : Rows A) (n : Name) (v : A) (m : Name) → row_of rows n ≡ None → row_of (rows ++ (n, v) ∷ []) m ≡ cond (same_name m n) (Some v) (row_of rows m)
  unfolding row_of
  row_pushed [] n v m h = refl
  row_pushed (row ∷ rows) n v m h =
      let q = first_other (same_name n row.0) row.1 (row_of rows n) h in
      other_branch (same_name m n) (same_name m row.0) (Some v) (row_of rows m) (Some row.1) (row_of (rows ++ (n, v) ∷ []) m) (not_both n m row.0 q.0) (row_pushed rows n v m q.1)

-- the row of a name among rows that are read off these
pub row_mapped : {A B : Type 0} (f : A → B) (rows : Rows A) (n : Name) → row_of (map (λ (row : Name × A). (row.0, f row.1)) rows) n ≡ option_map f (row_of rows n)
unfolding row_of
row_mapped f [] n = refl
row_mapped {A} {B} f (row ∷ rows) n = mapped_by f (same_name n row.0) row.1 (row_of rows n) (row_of (map (λ (row : Name × A). (row.0, f row.1)) rows) n) (row_mapped f rows n)

-- the row of a name among rows that are made of names
pub row_made : {A : Type 0} (made : Name → A) (names : List Name) (n : Name) → row_of (map (λ (m : Name). (m, made m)) names) n ≡ cond (is_among names n) (Some (made n)) None
unfolding row_of is_among
row_made made [] n = refl
row_made {A} made (m ∷ names) n = by (same_name n m) refl (row_made made names n)
  where
    by : (b : Bool) → same_name n m ≡ b → row_of (map (λ (k : Name). (k, made k)) names) n ≡ cond (is_among names n) (Some (made n)) None
        → cond b (Some (made m)) (row_of (map (λ (k : Name). (k, made k)) names) n) ≡ cond (b || is_among names n) (Some (made n)) None
    by true e rest = ap (λ k. Some (made k)) (sym (same_sound n m e))
    by false e rest = rest
