use Rattle.std.proofs.Common.{refl}
use Rattle.board_meaning.specs.Machine.{CloseCall}
use Rattle.board_meaning.specs.Points.{NoReply}
use Rattle.board_seats.proofs.Turns.{may_close, may_give, made}
use Rattle.board_seats.proofs.shared_board.SharedBoard.close.Goals as goal

pub give-requires-clause-entries : goal.give-requires-clause-entries
give-requires-clause-entries g c κs within =
    may_give c.args.pass.now c.take-board.result c.take-board.new.pass c.take-board.ensures.takes g.S.Subject.subject.dependencies CloseCall c.number.result c.number.ensures.number c.close.new.self c.close.ensures

pub returns : goal.returns
returns g c =
    made c.args.pass.now c.take-board.result c.take-board.new.pass c.take-board.ensures.takes c.close.new.self c.give.new.pass c.requires.idle.idle c.give.ensures.gives g.S.Subject.subject c.take-board.ensures.legal CloseCall NoReply c.number.result c.number.ensures.number
    (may_close c.take-board.result c.args.pass.now.number c.requires.front) refl c.close.ensures
