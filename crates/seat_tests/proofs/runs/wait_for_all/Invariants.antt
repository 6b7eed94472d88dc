use Rattle.board_seats.specs.Seats.{Keeps}
use Rattle.seat_tests.proofs.runs.wait_for_all.Given as goal

abbrev pub invariant-loop-name : goal.invariant-loop-name
invariant-loop-name g l = Keeps l.initial.pass l.pass
