use Rattle.board_seats.specs.Seats.{Keeps}
use Rattle.seat_tests.proofs.runs.put_all.Given as goal

abbrev pub invariant-loop-name : goal.invariant-loop-name
invariant-loop-name g l = Keeps l.initial.pass l.pass
