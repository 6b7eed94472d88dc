use Rattle.std.proofs.Common.{refl, ap}
use Rattle.board_meaning.specs.Points.{AsksClosed, ClosedReply}
use Rattle.board_seats.proofs.Turns.{told}
use Rattle.board_seats.proofs.shared_board.SharedBoard.closed.Goals as goal

pub returns : goal.returns
returns g c =
    told c.args.pass.now c.take-board.result c.take-board.new.pass c.take-board.ensures.takes c.take-board.result c.give.new.pass c.requires.idle.idle c.give.ensures.gives g.S.Subject.subject c.take-board.ensures.legal
    AsksClosed (ClosedReply c.closed-closed.result) refl (ap ClosedReply c.closed-closed.ensures) refl refl
