use Rattle.std.proofs.Common.{◌≡◌}
use Rattle.verdict_board.specs.Searching.{AreKept}
use Rattle.verdict_board.proofs.Falls.{fallen_to}
use Rattle.verdict_board.proofs.change.fall.Given as goal

abbrev pub invariant-loop-place : goal.invariant-loop-place
invariant-loop-place g l = record {
  stages : l.stages ≡ fallen_to l.edited l.place l.fn.stages;
  kept : AreKept l.stages l.graph l.candidates;
}
