use Rattle.std.proofs.Common.{ℕ, ◌<◌}
use Rattle.verdict_board.specs.PlaceSets.{NoneBefore}
use Rattle.verdict_board.specs.Readiness.{IsUnreadyAt}
use Rattle.verdict_board.specs.Searching.{AreKept}
use Rattle.verdict_board.proofs.candidates.first_ready.Given as goal

abbrev pub invariant-loop-place : goal.invariant-loop-place
invariant-loop-place g l = record {
  kept : AreKept l.stages l.graph l.candidates;
  before : (place : ℕ) → place < l.place → IsUnreadyAt l.stages l.graph place;
  left : NoneBefore l.place l.candidates.candidate;
}
