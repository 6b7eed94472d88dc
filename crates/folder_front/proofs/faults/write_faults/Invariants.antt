use Rattle.std.proofs.Common.{◌≤◌}
use Rattle.folder_front.proofs.FaultLines.{FaultsSoFar}
use Rattle.folder_front.proofs.faults.write_faults.Given as goal

abbrev pub invariant-loop-fault : goal.invariant-loop-fault
invariant-loop-fault g l = FaultsSoFar (g.K.Sink.taken l.fn.sink) (g.K.Sink.taken l.sink) l.faults l.fault-index × (g.K.Sink.faults l.fn.sink ≤ g.K.Sink.faults l.sink)
