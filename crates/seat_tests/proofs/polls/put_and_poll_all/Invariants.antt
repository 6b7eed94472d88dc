use Rattle.board_seats.specs.Seats.{Keeps}
use Rattle.seat_tests.proofs.polls.put_and_poll_all.Given as goal

abbrev pub invariant-loop-name : goal.invariant-loop-name
invariant-loop-name g l = Keeps l.initial.pass l.pass
