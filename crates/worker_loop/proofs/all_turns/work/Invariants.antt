use Rattle.board_seats.specs.Seats.{Keeps}
use Rattle.worker_loop.proofs.Works.{SoFar}
use Rattle.worker_loop.proofs.all_turns.work.Given as goal

abbrev pub invariant-loop : goal.invariant-loop
invariant-loop g l =
    Keeps l.initial.pass l.pass
    × SoFar g.S.Subject.subject l.initial.pass.number l.initial.pass.seen l.initial.steps l.pass.seen l.steps
