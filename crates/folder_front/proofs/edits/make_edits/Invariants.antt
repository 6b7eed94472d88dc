use Rattle.board_seats.specs.Seats.{Keeps}
use Rattle.folder_front.proofs.Editing.{EditsSoFar}
use Rattle.folder_front.proofs.edits.make_edits.Given as goal

abbrev pub invariant-loop-before : goal.invariant-loop-before
invariant-loop-before g l = Keeps l.fn.pass l.pass × EditsSoFar l.loaded l.before l.log l.pass.seen
