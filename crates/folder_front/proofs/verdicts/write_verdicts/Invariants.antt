use Rattle.std.proofs.Common.{◌≤◌}
use Rattle.board_seats.specs.Seats.{Keeps}
use Rattle.folder_front.proofs.Counting.{LinesSoFar}
use Rattle.folder_front.proofs.verdicts.write_verdicts.Given as goal

abbrev pub invariant-loop-place : goal.invariant-loop-place
invariant-loop-place g l = record {
  keeps : Keeps l.fn.pass l.pass;
  lines : LinesSoFar l.sheet (g.K.Sink.taken l.fn.sink) (g.K.Sink.taken l.sink) l.fn.pass.seen l.pass.seen l.place l.tally;
  later : g.K.Sink.faults l.fn.sink ≤ g.K.Sink.faults l.sink;
}
