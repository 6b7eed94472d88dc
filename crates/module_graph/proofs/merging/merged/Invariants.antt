use Rattle.std.proofs.Common.{◌+◌, ◌-◌, length}
use Rattle.module_graph.specs.Merging.{IsMerging}
use Rattle.module_graph.proofs.merging.merged.Given as goal

abbrev pub invariant-loop-own : goal.invariant-loop-own
invariant-loop-own l = IsMerging l.ours l.theirs l.own l.other l.names.items

abbrev pub decreases-loop-own : goal.decreases-loop-own
decreases-loop-own l = (length l.ours - l.own) + (length l.theirs - l.other)
