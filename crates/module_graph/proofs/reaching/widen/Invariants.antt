use Rattle.std.proofs.Common.{◌-◌, length, flat_map}
use Rattle.module_graph_meaning.specs.Graphs.{graph_reach}
use Rattle.module_graph.proofs.Reached.{IsReaching}
use Rattle.module_graph.proofs.reaching.widen.Given as goal

abbrev pub invariant-loop-next : goal.invariant-loop-next
invariant-loop-next l = IsReaching l.graph l.initial.reached.keys l.reached.keys l.next

abbrev pub decreases-loop-next : goal.decreases-loop-next
decreases-loop-next l = length (flat_map (graph_reach l.graph) l.initial.reached.keys) - l.next
