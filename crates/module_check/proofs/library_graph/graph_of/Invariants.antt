use Rattle.std.proofs.Common.{◌-◌, length}
use Rattle.edit_log_meaning.specs.Log.{library_of, names_of}
use Rattle.text_meaning.specs.Dependencies as meaning
use Rattle.module_check.proofs.LibraryGraph.{HoldsFirst}
use Rattle.module_check.proofs.library_graph.graph_of.Given as goal

abbrev pub invariant-loop-name : goal.invariant-loop-name
invariant-loop-name l = HoldsFirst meaning.dependencies (library_of l.log) l.graph

abbrev pub decreases-loop-name : goal.decreases-loop-name
decreases-loop-name l = length (names_of (library_of l.log)) - length l.graph
