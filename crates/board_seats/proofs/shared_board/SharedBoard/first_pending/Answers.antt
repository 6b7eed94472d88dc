use Rattle.std.proofs.Common.{refl, sym, subst}
use Rattle.board_meaning.specs.Events.{History}
use Rattle.verdict_board.specs.FirstPending.{IsFirstPending}
use Rattle.board_seats.proofs.Turns.{sees}
use Rattle.board_seats.proofs.Results.{looked}
use Rattle.board_seats.proofs.shared_board.SharedBoard.first_pending.Goals as goal

pub returns-clause-looks : goal.returns-clause-looks
returns-clause-looks g c =
    looked c.args.pass.now c.take-board.result c.take-board.new.pass c.take-board.ensures.takes c.take-board.result c.give.new.pass c.requires.idle.idle c.give.ensures.gives g.S.Subject.subject.dependencies c.take-board.ensures.legal refl

pub returns-clause-pending : goal.returns-clause-pending
returns-clause-pending g c =
    subst (λ (h : History). IsFirstPending g.S.Subject.subject.dependencies h c.args.from c.first_pending-place.result)
    (sym (sees c.args.pass.now c.take-board.result c.take-board.new.pass c.take-board.ensures.takes c.take-board.result c.give.new.pass c.requires.idle.idle c.give.ensures.gives)) c.first_pending-place.ensures
