-- Names that are taken off a graph, once all their present dependencies are taken off (this profile). Names are given by their
-- places in the graph.
use Rattle.std.specs.Prelude.{◌≡◌, ◌⊎◌, ℕ, ◌+◌, ◌*◌, ◌<◌, ◌≤◌, Bool, true, false, not, List, length, count_by, slice_get, Some}
use Rattle.name_meaning.specs.Names.{Name}
use Rattle.name_meaning.specs.Rows.{row_names, IsTable}
use Rattle.module_graph_meaning.specs.Walks.{is_grounded}
use Rattle.module_graph_meaning.specs.Graphs.{Graph, row_dependencies, row_library}
use Rattle.list_laws.proofs.Members.{Member}

-- The name is absent from the graph, or taken off.
abbrev pub IsPassed : Graph → List Bool → Name → Type 0
IsPassed graph taken name = (place : ℕ) → slice_get (row_names graph) place ≡ Some name → slice_get taken place ≡ Some true

-- The name at a place waits for one of its dependencies, which is not taken off, or only just.
pub record IsWaiting {W : Type 0} (items : W → List ℕ) (graph : Graph) (taken : List Bool) (waiting : List W) (ready : List ℕ) (place : ℕ) : Type 0 where
  pub row : Name × List Name
  pub at : slice_get graph place ≡ Some row
  pub other : ℕ
  pub name : Name
  pub named : slice_get (row_names graph) other ≡ Some name
  pub depends : Member name row.1
  pub list : W
  pub lists : slice_get waiting other ≡ Some list
  pub waits : Member place (items list)
  pub not_taken : (slice_get taken other ≡ Some false) ⊎ Member other ready

-- What is true while names are taken off, where these names are still to be looked at.
pub record IsPeeling {W : Type 0} (items : W → List ℕ) (graph : Graph) (taken : List Bool) (waiting : List W) (seen ready pending : List ℕ) : Type 0 where
  pub table : IsTable graph
  pub each_taken : length taken ≡ length graph
  pub each_waiting : length waiting ≡ length graph
  pub each_seen : length seen ≡ length graph
  pub ready_within : (place : ℕ) → Member place ready → place < length graph
  pub pending_within : (place : ℕ) → Member place pending → place < length graph
  pub waiting_within : (other place : ℕ) (list : W) → slice_get waiting other ≡ Some list → Member place (items list) → place < length graph
  pub sound : (place : ℕ) (name : Name) → slice_get (row_names graph) place ≡ Some name → slice_get taken place ≡ Some true
      → is_grounded (row_dependencies graph) (row_library graph) name ≡ true
  pub passed : (place from before : ℕ) (row : Name × List Name) (name : Name) → slice_get graph place ≡ Some row → slice_get seen place ≡ Some from
      → before < from → slice_get row.1 before ≡ Some name → IsPassed graph taken name
  pub kept : (place : ℕ) → place < length graph
      → (slice_get taken place ≡ Some true) ⊎ (Member place pending ⊎ IsWaiting items graph taken waiting ready place)

-- How much is left to do: taking a name off counts two, and waking those that wait for it one.
abbrev pub work_left : List Bool → List ℕ → ℕ
work_left taken ready = 2 * count_by not taken + length ready

-- Of each name it is told whether it is grounded.
abbrev pub TellsGrounded : Graph → List Bool → Type 0
TellsGrounded graph taken =
    (length taken ≡ length graph)
    × ((place : ℕ) (name : Name) → slice_get (row_names graph) place ≡ Some name → slice_get taken place ≡ Some (is_grounded (row_dependencies graph) (row_library graph) name))

-- What a search among the dependencies from a place on has found: the place of one that is open with its place in the graph, and
-- all before it are passed; or that all are passed.
pub record IsOpenAt (graph : Graph) (taken : List Bool) (dependencies : List Name) (from at other : ℕ) : Type 0 where
  pub name : Name
  pub here : slice_get dependencies at ≡ Some name
  pub named : slice_get (row_names graph) other ≡ Some name
  pub not_taken : slice_get taken other ≡ Some false
  pub passed : (before : ℕ) (earlier : Name) → from ≤ before → before < at → slice_get dependencies before ≡ Some earlier → IsPassed graph taken earlier

abbrev pub AllPassed : Graph → List Bool → List Name → ℕ → Type 0
AllPassed graph taken dependencies from =
    (place : ℕ) (name : Name) → from ≤ place → slice_get dependencies place ≡ Some name → IsPassed graph taken name
