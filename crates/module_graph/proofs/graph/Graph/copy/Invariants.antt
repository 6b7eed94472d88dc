use Rattle.std.proofs.Common.{◌≡◌, take}
use Rattle.module_graph.proofs.graph.Graph.copy.Given as goal

abbrev pub invariant-loop-place : goal.invariant-loop-place
invariant-loop-place l = l.rows ≡ take l.place l.self-inside.rows
