use Rattle.verdict_board.proofs.Transitions.{kept_new}
use Rattle.verdict_board.proofs.board.Board.new.Goals as goal

pub invariant_of-result : goal.invariant_of-result
invariant_of-result g c = rw (c.new-5.ensures, c.new.ensures, c.new-2.ensures, c.new-3.ensures) (kept_new g.S.Subject.subject g.S.Subject.meaning c.in_ok-new.field-0 c.in_ok-new.ensures)
