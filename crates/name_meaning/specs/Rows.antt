-- What stands under names, as rows in byte order of the names (this profile).
use Rattle.std.specs.Prelude.{◌≡◌, true, ℕ, ◌<◌, ◌≤◌, List, [], ◌∷◌, map, filter, not, length, slice_get, Option, Some, None, if◌then◌else◌}
use Rattle.name_meaning.specs.Names.{Name, same_name, comes_before, is_ascending}

-- Each row has a name and what stands under it.
abbrev pub Rows : Type 0 → Type 0
Rows A = List (Name × A)

-- The names of the rows, in order.
abbrev pub row_names : {A : Type 0} → Rows A → List Name
row_names {A} rows = map (λ (row : Name × A). row.0) rows

-- The names stand in byte order, each once.
abbrev pub IsTable : {A : Type 0} → Rows A → Type 0
IsTable rows = is_ascending (row_names rows) ≡ true

-- What stands under the name, if the name is there.
unfoldable pub row_of : {A : Type 0} → Rows A → Name → Option A
row_of [] name = None
row_of (first ∷ rows) name = if same_name name first.0 then Some first.1 else row_of rows name

-- The rows with this under the name, in place of what stood under it.
unfoldable pub with_row : {A : Type 0} → Name → A → Rows A → Rows A
with_row name value [] = (name, value) ∷ []
with_row name value (first ∷ rows) =
    if same_name name first.0 then (name, value) ∷ rows
    else (if comes_before name first.0 then (name, value) ∷ first ∷ rows else first ∷ with_row name value rows)

-- The rows without this name.
unfoldable pub without_row : {A : Type 0} → Name → Rows A → Rows A
without_row {A} name rows = filter (λ (row : Name × A). not (same_name name row.0)) rows

-- The name would stand at this place: the names before the place come before it, and it comes before those from the place on.
pub record IsGap (names : List Name) (name : Name) (place : ℕ) : Type 0 where
  pub within : place ≤ length names
  pub before : (i : ℕ) (other : Name) → i < place → slice_get names i ≡ Some other → comes_before other name ≡ true
  pub behind : (i : ℕ) (other : Name) → place ≤ i → slice_get names i ≡ Some other → comes_before name other ≡ true
