-- Walks along dependencies, and which names are grounded (this profile).
use Rattle.std.specs.Prelude.{◌≡◌, ℕ, zero, suc, ◌<◌, Bool, true, List, [], ◌∷◌, ◌&&◌, not, length, filter, Option, Some, None}
use Rattle.std.specs.List.{list_any}
use Rattle.name_meaning.specs.Names.{Name, Text, is_among}
use Rattle.edit_log_meaning.specs.Log.{Library, names_of, text_of, is_present}

-- The direct dependencies of a module, from its name and its text alone.
abbrev pub Dependencies : Type 0
Dependencies = Name → Text → List Name

-- The direct dependencies of a module with this text, if there is one.
abbrev pub of_text : (Text → List Name) → Option Text → List Name
of_text dependencies None = []
of_text dependencies (Some text) = dependencies text

-- The direct dependencies of a name in a library. A name that is absent has none.
unfoldable pub direct : Dependencies → Library → Name → List Name
direct dependencies library name = of_text (dependencies name) (text_of library name)

-- The name, with these names behind it, is a walk: each is present, and each but the first is a direct dependency
-- of the one before it.
unfoldable pub IsWalk : Dependencies → Library → Name → List Name → Type 0
IsWalk dependencies library name [] = is_present library name ≡ true
IsWalk dependencies library name (next ∷ rest) =
    (is_present library name ≡ true) × (is_among (direct dependencies library name) next ≡ true) × IsWalk dependencies library next rest

-- A walk with more names than the library begins at this name.
pub record Ungrounded (dependencies : Dependencies) (library : Library) (name : Name) : Type 0 where
  pub rest : List Name
  pub walk : IsWalk dependencies library name rest
  pub longer : length library < length (name ∷ rest)

-- The present names that have one of these as a direct dependency.
abbrev pub depending_on : Dependencies → Library → List Name → List Name
depending_on dependencies library names =
    filter (λ name. list_any (is_among names) (direct dependencies library name)) (names_of library)

-- The names at which a walk begins that has so many names behind its first.
unfoldable pub walking : Dependencies → Library → ℕ → List Name
walking dependencies library zero = names_of library
walking dependencies library (suc more) = depending_on dependencies library (walking dependencies library more)

-- The present names at which a walk with more names than the library begins.
unfoldable pub ungrounded_names : Dependencies → Library → List Name
ungrounded_names dependencies library = walking dependencies library (length library)

-- The name is one of these.
unfoldable pub is_ungrounded : Dependencies → Library → Name → Bool
is_ungrounded dependencies library name = is_among (ungrounded_names dependencies library) name

-- The name is present, and not ungrounded.
abbrev pub is_grounded : Dependencies → Library → Name → Bool
is_grounded dependencies library name = is_present library name && not (is_ungrounded dependencies library name)
