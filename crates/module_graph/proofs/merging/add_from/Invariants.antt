use Rattle.std.proofs.Common.{◌≡◌, ◌++◌, drop}
use Rattle.module_graph.proofs.merging.add_from.Given as goal

abbrev pub invariant-loop-place : goal.invariant-loop-place
invariant-loop-place l = l.names.items ++ drop l.place l.more ≡ l.initial.names.items ++ drop l.initial.from l.more
