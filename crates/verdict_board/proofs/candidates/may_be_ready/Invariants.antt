use Rattle.std.proofs.Common.{ℕ, ◌<◌}
use Rattle.module_graph_meaning.specs.Graphs.{Graph}
use Rattle.verdict_board.specs.Readiness.{IsUnreadyAt}
use Rattle.verdict_board.specs.Searching.{AreKept}
use Rattle.verdict_board.proofs.candidates.may_be_ready.Given as goal

abbrev pub invariant-loop-place : goal.invariant-loop-place
invariant-loop-place g l = (graph : Graph) → AreKept l.stages graph l.candidates → (place : ℕ) → place < l.place → IsUnreadyAt l.stages graph place
