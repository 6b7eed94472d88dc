use Rattle.board_meaning.specs.Machine.{ClaimCall}
use Rattle.board_seats.proofs.Results.{may_give_result, claimed, handed, given_then}
use Rattle.board_seats.proofs.shared_board.SharedBoard.claim.Goals as goal

pub give-requires-clause-entries : goal.give-requires-clause-entries
give-requires-clause-entries g c κs within =
    may_give_result c.args.pass.now c.take-board.result c.take-board.new.pass c.take-board.ensures.takes c.number.result c.number.ensures.number c.claim-job.new.self g.S.Subject.subject.dependencies ClaimCall
    c.claim-job.result c.claim-job.ensures.history c.claim-job.ensures.unchanged

pub returns-clause-called : goal.returns-clause-called
returns-clause-called g c =
    claimed c.args.pass.now c.take-board.result c.take-board.new.pass c.take-board.ensures.takes c.number.result c.number.ensures.number c.claim-job.new.self c.give.new.pass c.requires.idle.idle c.give.ensures.gives g.S.Subject.subject c.take-board.ensures.legal g.S.Subject.meaning
    c.claim-job.result c.claim-job.ensures.job c.claim-job.ensures.history c.claim-job.ensures.unchanged

pub returns-clause-may_end : goal.returns-clause-may_end
returns-clause-may_end g c =
    handed c.args.pass.now c.take-board.result c.take-board.new.pass c.take-board.ensures.takes c.number.result c.number.ensures.number c.claim-job.new.self c.give.new.pass c.requires.idle.idle c.give.ensures.gives g.S.Subject.subject c.take-board.ensures.legal g.S.Subject.meaning
    c.claim-job.result c.claim-job.ensures.job c.claim-job.ensures.history

pub returns-clause-given : goal.returns-clause-given
returns-clause-given g c =
    given_then c.args.pass.now c.take-board.result c.take-board.new.pass c.take-board.ensures.takes c.number.result c.number.ensures.number c.claim-job.new.self c.give.new.pass c.requires.idle.idle c.give.ensures.gives g.S.Subject.subject c.take-board.ensures.legal g.S.Subject.meaning
    c.claim-job.result c.claim-job.ensures.job c.claim-job.ensures.history c.claim-job.ensures.given
