use Rattle.board_meaning.specs.Machine.{EditCall}
use Rattle.edit_log.specs.Readings.{read_edit}
use Rattle.board_seats.proofs.Results.{may_give_result, edited}
use Rattle.board_seats.proofs.shared_board.SharedBoard.edit_read_before.Goals as goal

pub give-requires-clause-entries : goal.give-requires-clause-entries
give-requires-clause-entries g c κs within =
    may_give_result c.args.pass.now c.take-board.result c.take-board.new.pass c.take-board.ensures.takes c.number.result c.number.ensures.number c.edit_read_before-answer.new.self g.S.Subject.subject.dependencies (EditCall (read_edit c.args.edit))
    c.edit_read_before-answer.result c.edit_read_before-answer.ensures.history c.edit_read_before-answer.ensures.unchanged

pub returns : goal.returns
returns g c =
    edited c.args.pass.now c.take-board.result c.take-board.new.pass c.take-board.ensures.takes c.number.result c.number.ensures.number c.edit_read_before-answer.new.self c.give.new.pass c.requires.idle.idle c.give.ensures.gives g.S.Subject.subject c.take-board.ensures.legal (read_edit c.args.edit)
    c.edit_read_before-answer.result c.requires.front c.edit_read_before-answer.ensures.answer c.edit_read_before-answer.ensures.history c.edit_read_before-answer.ensures.unchanged
