use Rattle.board_seats.specs.Seats.{Keeps}
use Rattle.generator_front.proofs.Tallies.{TallySoFar}
use Rattle.generator_front.proofs.verdicts.verdicts.Given as goal

abbrev pub invariant-loop-place : goal.invariant-loop-place
invariant-loop-place g l = Keeps l.fn.pass l.pass × TallySoFar l.log l.fn.pass.seen l.pass.seen l.place l.counts
