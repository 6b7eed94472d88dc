use Rattle.board_seats.specs.Seats.{Keeps}
use Rattle.board_front.proofs.Checked.{ChecksSoFar}
use Rattle.board_front.proofs.reports.check_lines.Given as goal

abbrev pub invariant-loop-place : goal.invariant-loop-place
invariant-loop-place g l = Keeps l.fn.pass l.pass × ChecksSoFar l.log l.fn.pass.seen l.pass.seen l.place l.lines
