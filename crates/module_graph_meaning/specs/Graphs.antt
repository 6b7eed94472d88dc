-- Graphs: names with their direct dependencies written out, and the walks of a graph (this profile).
use Rattle.std.specs.Prelude.{◌≡◌, true, Bool, List, [], map, filter, unwrap_or, Option, Some}
use Rattle.name_meaning.specs.Names.{Name, Text}
use Rattle.name_meaning.specs.Rows.{Rows, row_names, row_of}
use Rattle.edit_log_meaning.specs.Log.{Library, names_of, is_present}
use Rattle.module_graph_meaning.specs.Walks.{Dependencies, direct, is_ungrounded, is_grounded}
use Rattle.module_graph_meaning.specs.Reach.{reach}

-- Under each name stand its direct dependencies, in order.
abbrev pub Graph : Type 0
Graph = Rows (List Name)

-- The direct dependencies of a name, whatever its text. A name that is absent has none.
abbrev pub row_dependencies : Graph → Dependencies
row_dependencies graph name text = unwrap_or (row_of graph name) []

-- The names of a graph as a library of empty texts, so that a walk of the graph is a walk of this library.
abbrev pub row_library : Graph → Library
row_library graph = map (λ (row : Name × List Name). record { name = row.0; text = [] }) graph

-- The reach of a name in a graph, in byte order: the name and all names on walks from it, present or not.
unfoldable pub graph_reach : Graph → Name → List Name
graph_reach graph name = reach (row_dependencies graph) (row_library graph) name

-- The name is in the graph, and a walk of the graph that has more names than the graph begins at it.
unfoldable pub is_graph_ungrounded : Graph → Name → Bool
is_graph_ungrounded graph name = is_ungrounded (row_dependencies graph) (row_library graph) name

-- The names of the graph at which no such walk begins, in byte order.
unfoldable pub graph_grounded : Graph → List Name
graph_grounded graph = filter (is_grounded (row_dependencies graph) (row_library graph)) (row_names graph)

-- The graph holds the dependencies of a library: it has the library's names, each with its direct dependencies there.
pub record HoldsDependencies (graph : Graph) (dependencies : Dependencies) (library : Library) : Type 0 where
  pub names : row_names graph ≡ names_of library
  pub rows : (name : Name) → is_present library name ≡ true → row_of graph name ≡ Some (direct dependencies library name)
