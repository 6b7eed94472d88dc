-- The rows of those names under which something stands.
use Rattle.std.specs.Prelude.{[], ◌∷◌, flat_map, Option, Some, None}
use Rattle.name_meaning.specs.Names.{Name}
use Rattle.name_meaning.specs.Rows.{Rows}

-- The row of a name, if something stands under it.
abbrev pub present_row : {A : Type 0} → Name → Option A → Rows A
present_row name None = []
present_row name (Some value) = (name, value) ∷ []

-- All of them, in order.
abbrev pub present_rows : {A : Type 0} → Rows (Option A) → Rows A
present_rows {A} rows = flat_map (λ (row : Name × Option A). present_row row.0 row.1) rows
