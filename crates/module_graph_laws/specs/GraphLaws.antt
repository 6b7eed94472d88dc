-- Laws of graphs that hold the dependencies of a library (this profile).
use Rattle.std.specs.Prelude.{◌≡◌, [], filter}
use Rattle.name_meaning.specs.Names.{Name}
use Rattle.name_meaning.specs.Rows.{with_row, without_row}
use Rattle.edit_log_meaning.specs.Log.{Library, Edit, Put, Drop, names_of, edited}
use Rattle.module_graph_meaning.specs.Walks.{Dependencies, is_ungrounded, is_grounded}
use Rattle.module_graph_meaning.specs.Reach.{reach}
use Rattle.module_graph_meaning.specs.Graphs.{Graph, HoldsDependencies, graph_reach, is_graph_ungrounded, graph_grounded}

-- A name has the same reach in the graph and in the library.
abbrev pub GraphReaches : Type 0
GraphReaches =
    (graph : Graph) (dependencies : Dependencies) (library : Library) (name : Name) → HoldsDependencies graph dependencies library
    → graph_reach graph name ≡ reach dependencies library name

-- The grounded names of the graph are those of the library, and so are the ungrounded ones.
abbrev pub GraphGrounds : Type 0
GraphGrounds =
    (graph : Graph) (dependencies : Dependencies) (library : Library) → HoldsDependencies graph dependencies library
    → graph_grounded graph ≡ filter (is_grounded dependencies library) (names_of library)

abbrev pub GraphIsUngrounded : Type 0
GraphIsUngrounded =
    (graph : Graph) (dependencies : Dependencies) (library : Library) (name : Name) → HoldsDependencies graph dependencies library
    → is_graph_ungrounded graph name ≡ is_ungrounded dependencies library name

-- The row that an edit asks for: the direct dependencies of the text that is put, and none for a name that is dropped.
abbrev pub graph_edited : Dependencies → Graph → Edit → Graph
graph_edited dependencies graph (Put name text) = with_row name (dependencies name text) graph
graph_edited dependencies graph (Drop name) = without_row name graph

-- A graph that holds the dependencies of a library holds them after an edit, once the row of the edit's name is changed.
abbrev pub EditedGraphHolds : Type 0
EditedGraphHolds =
    (graph : Graph) (dependencies : Dependencies) (library : Library) (edit : Edit) → HoldsDependencies graph dependencies library
    → HoldsDependencies (graph_edited dependencies graph edit) dependencies (edited library edit)

-- A graph without names holds the dependencies of the empty library.
abbrev pub EmptyGraphHolds : Type 0
EmptyGraphHolds = (dependencies : Dependencies) → HoldsDependencies [] dependencies []
