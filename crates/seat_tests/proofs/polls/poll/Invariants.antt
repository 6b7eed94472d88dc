use Rattle.board_seats.specs.Seats.{Keeps}
use Rattle.seat_tests.proofs.polls.poll.Given as goal

abbrev pub invariant-loop : goal.invariant-loop
invariant-loop g l = Keeps l.initial.pass l.pass
