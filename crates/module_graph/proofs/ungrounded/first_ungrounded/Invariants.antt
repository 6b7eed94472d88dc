use Rattle.std.proofs.Common.{◌≡◌, false}
use Rattle.std.specs.List.{AllWithin}
use Rattle.module_graph_meaning.specs.Graphs.{is_graph_ungrounded}
use Rattle.module_graph.proofs.ungrounded.first_ungrounded.Given as goal

abbrev pub invariant-loop-place : goal.invariant-loop-place
invariant-loop-place l = AllWithin (λ name. is_graph_ungrounded l.graph name ≡ false) l.deps 0 l.place
