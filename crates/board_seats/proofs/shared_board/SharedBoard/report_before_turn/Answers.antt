use Rattle.std.proofs.Common.{refl}
use Rattle.board_seats.proofs.Results.{reported}
use Rattle.board_seats.proofs.shared_board.SharedBoard.report_before_turn.Goals as goal

pub returns : goal.returns
returns g c =
    reported c.args.pass.now c.take-board.result c.take-board.new.pass c.take-board.ensures.takes c.take-board.result c.give.new.pass c.requires.idle.idle c.give.ensures.gives g.S.Subject.subject c.take-board.ensures.legal g.S.Subject.meaning refl c.args.name.now
    c.report-known.result c.report-known.ensures.told c.report-known.ensures.memory
