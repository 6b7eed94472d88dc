-- The reach of a name: all on which its answer may depend (this profile).
use Rattle.std.specs.Prelude.{◌≡◌, ◌⊎◌, ℕ, zero, suc, true, List, [], ◌∷◌, length, flat_map}
use Rattle.name_meaning.specs.Names.{Name, is_among, with_names}
use Rattle.edit_log_meaning.specs.Log.{Library, text_of}
use Rattle.module_graph_meaning.specs.Walks.{Dependencies, direct, IsWalk}

-- A walk from the first name has this name on it, and the other is that name or a direct dependency of it.
pub record IsOnWalk (dependencies : Dependencies) (library : Library) (name other : Name) : Type 0 where
  pub rest : List Name
  pub walk : IsWalk dependencies library name rest
  pub on : Name
  pub stands : is_among (name ∷ rest) on ≡ true
  pub is : (other ≡ on) ⊎ (is_among (direct dependencies library on) other ≡ true)

-- The reach of the first name holds the second: it is that name itself, or on a walk from it, or a direct
-- dependency of a name on such a walk, present or not.
abbrev pub IsReached : Dependencies → Library → Name → Name → Type 0
IsReached dependencies library name other = (other ≡ name) ⊎ IsOnWalk dependencies library name other

-- These names, in byte order, and their direct dependencies.
abbrev pub widened : Dependencies → Library → List Name → List Name
widened dependencies library names = with_names (flat_map (direct dependencies library) names) names

-- What is reached from the name in at most so many steps from a name to a direct dependency.
unfoldable pub reach_within : Dependencies → Library → Name → ℕ → List Name
reach_within dependencies library name zero = name ∷ []
reach_within dependencies library name (suc steps) = widened dependencies library (reach_within dependencies library name steps)

-- The reach of the name, in byte order. A shortest way to a name of it has no more steps than the library has names.
unfoldable pub reach : Dependencies → Library → Name → List Name
reach dependencies library name = reach_within dependencies library name (length library)

-- The two libraries agree on these names: they give each the same text, or both lack it.
abbrev pub AgreesOn : Library → Library → List Name → Type 0
AgreesOn library other names = (name : Name) → is_among names name ≡ true → text_of library name ≡ text_of other name
