use Rattle.board_seats.specs.Seats.{Keeps}
use Rattle.board_front.specs.Staying.{Stays}
use Rattle.board_front.proofs.verdict.told.Given as goal

abbrev pub invariant-loop : goal.invariant-loop
invariant-loop g l = Keeps l.fn.pass l.pass × Stays l.fn.pass.seen l.pass.seen
