-- The order in which modules are judged (this profile).
use Rattle.std.specs.Prelude.{◌≡◌, ◌≤◌, ℕ, true, List, length, slice_get, Some}
use Rattle.name_meaning.specs.Names.{Name, is_among}
use Rattle.edit_log_meaning.specs.Log.{Library, is_present}
use Rattle.module_graph_meaning.specs.Graphs.{Graph, graph_reach}
use Rattle.verdict_meaning.specs.Rounds.{others_reached}

-- A name that stands before another one reaches no more names than that.
abbrev pub RisesInReach : Graph → List Name → Type 0
RisesInReach graph order =
    (i j : ℕ) (name other : Name) → i ≤ j → slice_get order i ≡ Some name → slice_get order j ≡ Some other → length (graph_reach graph name) ≤ length (graph_reach graph other)

-- The present names that this name reaches, itself left out, are among these.
abbrev pub HasReachOf : Library → List Name → Name → Type 0
HasReachOf library names name = (other : Name) → is_among (others_reached library name) other ≡ true → is_present library other ≡ true → is_among names other ≡ true

-- All present names are among these.
abbrev pub HaveAll : Library → List Name → Type 0
HaveAll library names = (name : Name) → is_present library name ≡ true → is_among names name ≡ true
