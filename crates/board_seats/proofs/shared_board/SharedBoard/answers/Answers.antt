use Rattle.std.proofs.Common.{refl}
use Rattle.board_seats.proofs.Results.{asked}
use Rattle.board_seats.proofs.shared_board.SharedBoard.answers.Goals as goal

pub returns : goal.returns
returns g c =
    asked c.args.pass.now c.take-board.result c.take-board.new.pass c.take-board.ensures.takes c.take-board.result c.give.new.pass c.requires.idle.idle c.give.ensures.gives g.S.Subject.subject c.take-board.ensures.legal g.S.Subject.meaning refl c.args.name.now
    c.answers-answers.result c.answers-answers.ensures
