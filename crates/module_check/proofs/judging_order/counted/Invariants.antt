use Rattle.std.proofs.Common.{◌≡◌, map, length, take}
use Rattle.name_meaning.specs.Names.{Name}
use Rattle.module_graph_meaning.specs.Graphs.{graph_reach}
use Rattle.module_check.proofs.judging_order.counted.Given as goal

abbrev pub invariant-loop-name : goal.invariant-loop-name
invariant-loop-name l = l.counted.items ≡ map (λ (name : Name). (length (graph_reach l.graph name), name)) (take l.name-index l.names)
