use Rattle.std.proofs.Common.{◌≡◌, take, filter}
use Rattle.name_meaning.specs.Rows.{row_names}
use Rattle.module_graph_meaning.specs.Walks.{is_grounded}
use Rattle.module_graph_meaning.specs.Graphs.{row_dependencies, row_library}
use Rattle.module_graph.proofs.grounding.grounded.Given as goal

abbrev pub invariant-loop-place : goal.invariant-loop-place
invariant-loop-place l = l.names.items ≡ filter (is_grounded (row_dependencies l.graph) (row_library l.graph)) (take l.place (row_names l.graph))
