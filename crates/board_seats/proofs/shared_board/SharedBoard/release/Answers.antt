use Rattle.std.proofs.Common.{refl}
use Rattle.board_meaning.specs.Machine.{ReleaseCall}
use Rattle.board_meaning.specs.Points.{NoReply}
use Rattle.verdict_board.specs.Readings.{read_job}
use Rattle.board_seats.proofs.Turns.{may_give, made}
use Rattle.board_seats.proofs.Ending.{held, held_by}
use Rattle.board_seats.proofs.shared_board.SharedBoard.release.Goals as goal

pub release-requires-clause-job : goal.release-requires-clause-job
release-requires-clause-job g c κs within =
    (held c.args.pass.now c.take-board.result c.take-board.new.pass c.take-board.ensures.takes g.S.Subject.subject c.take-board.ensures.legal (read_job g.S.Subject.meaning c.args.job) c.requires.job).claimed

pub release-requires-clause-may : goal.release-requires-clause-may
release-requires-clause-may g c κs within =
    (held_by c.args.pass.now c.take-board.result c.take-board.new.pass c.take-board.ensures.takes g.S.Subject.subject c.take-board.ensures.legal (read_job g.S.Subject.meaning c.args.job) c.requires.job c.number.result c.number.ensures.number).releases

pub give-requires-clause-entries : goal.give-requires-clause-entries
give-requires-clause-entries g c κs within =
    may_give c.args.pass.now c.take-board.result c.take-board.new.pass c.take-board.ensures.takes g.S.Subject.subject.dependencies (ReleaseCall c.args.job.claim) c.number.result c.number.ensures.number c.release.new.self c.release.ensures.history

pub returns : goal.returns
returns g c =
    made c.args.pass.now c.take-board.result c.take-board.new.pass c.take-board.ensures.takes c.release.new.self c.give.new.pass c.requires.idle.idle c.give.ensures.gives g.S.Subject.subject c.take-board.ensures.legal (ReleaseCall c.args.job.claim) NoReply c.number.result c.number.ensures.number
    (held c.args.pass.now c.take-board.result c.take-board.new.pass c.take-board.ensures.takes g.S.Subject.subject c.take-board.ensures.legal (read_job g.S.Subject.meaning c.args.job) c.requires.job).releases refl c.release.ensures.history
