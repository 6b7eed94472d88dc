-- Which of some theories has a constant at a path.
use Rattle.std.specs.Prelude.{◌≡◌, ℕ, zero, suc, List, [], ◌∷◌, Option, Some, None, nat_eq, is_some, if◌then◌else◌}
use Rattle.std.specs.Map.{lookup}
use Rattle.std.specs.Option.{ForSome}
use Rattle.name_meaning.specs.Names.{Name, Path}
use Rattle.lf_meaning.specs.Signatures.{Declaration, Signature}
use Rattle.library_meaning.specs.Closure.{sees}
use Rattle.library_meaning.specs.Faces.{Environment, own_part}
use Rattle.library_meaning.specs.Resolution.{Scope, has_path, own_at, same_path}
use Rattle.names.specs.declared.included_table.IncludedTable.{IncludedTable}

-- The place of the only theory, or none where there are more; if there is one at all.
abbrev pub Place : Type 0
Place = Option (Option ℕ)

-- The theory at a place is one of them, also if it was met before.
abbrev pub next_place : ℕ → Place → Option ℕ
next_place place None = Some place
next_place place (Some (Some first)) = if nat_eq first place then Some place else None
next_place place (Some None) = None

-- A declaration of the theory at a place counts where it has the path.
abbrev pub with_declaration : ℕ → Path → Place → Declaration → Place
with_declaration place path known declaration = if has_path path declaration then Some (next_place place known) else known

-- So does the theory at a place where it has a constant at the path.
abbrev pub with_own : ℕ → Path → Place → Signature → Place
with_own place path known own = if is_some (own_at own path) then Some (next_place place known) else known

-- The place among theories, of which the first one has this place.
abbrev pub place_from : ℕ → Environment → Path → Place → List Name → Place
place_from place environment path known [] = known
place_from place environment path known (theory ∷ theories) = place_from (suc place) environment path (with_own place path known (own_part environment theory)) theories

abbrev pub place_among : Environment → Path → List Name → Place
place_among environment path theories = place_from zero environment path None theories

-- The place in a table.
abbrev pub place_in : List (Path × Option ℕ) → Path → Place
place_in places path = lookup (same_path path) places

-- The two lists have the same theories.
abbrev pub HasTheories : List Name → List Name → Type 0
HasTheories names theories = (theory : Name) → sees names theory ≡ sees theories theory

-- The table is that of these theories.
abbrev pub Tabulates : IncludedTable → List Name → Environment → Type 0
Tabulates table theories environment = HasTheories table.theories.keys theories × ((path : Path) → place_in table.places.entries path ≡ place_among environment path theories)

-- A table, if there is one, is that of what the scope includes.
abbrev pub IsTableOf : Option IncludedTable → Scope → Type 0
IsTableOf table scope = ForSome table (λ t. Tabulates t scope.includes scope.environment)
