use Rattle.std.proofs.Common.{ap, Some}
use Rattle.atomic_table.specs.Seated.{TableId}
use Rattle.turn_meaning.specs.Passes.{Pass}
use Rattle.board_meaning.specs.Events.{Entry}
use Rattle.board_meaning.specs.Machine.{InstallCall}
use Rattle.board_meaning.specs.Points.{InstallReply}
use Rattle.verdict_board.specs.Readings.{read_job, read_installed}
use Rattle.board_seats.proofs.Turns.{may_give, made}
use Rattle.board_seats.proofs.Ending.{held, held_by, brought}
use Rattle.board_seats.proofs.shared_board.SharedBoard.install.Goals as goal

pub install-reply-requires-clause-job : goal.install-reply-requires-clause-job
install-reply-requires-clause-job g c κs within =
    (held c.args.pass.now c.take-board.result c.take-board.new.pass c.take-board.ensures.takes g.S.Subject.subject c.take-board.ensures.legal (read_job g.S.Subject.meaning c.args.job) c.requires.job).claimed

pub install-reply-requires-clause-may : goal.install-reply-requires-clause-may
install-reply-requires-clause-may g c κs within =
    (held_by c.args.pass.now c.take-board.result c.take-board.new.pass c.take-board.ensures.takes g.S.Subject.subject c.take-board.ensures.legal (read_job g.S.Subject.meaning c.args.job) c.requires.job c.number.result c.number.ensures.number).installs

pub give-requires-clause-entries : goal.give-requires-clause-entries
give-requires-clause-entries g c κs within =
    may_give c.args.pass.now c.take-board.result c.take-board.new.pass c.take-board.ensures.takes g.S.Subject.subject.dependencies (InstallCall c.args.job.claim) c.number.result c.number.ensures.number c.install-reply.new.self c.install-reply.ensures.history

pub returns-clause-called : goal.returns-clause-called
returns-clause-called g c =
    made c.args.pass.now c.take-board.result c.take-board.new.pass c.take-board.ensures.takes c.install-reply.new.self c.give.new.pass c.requires.idle.idle c.give.ensures.gives g.S.Subject.subject c.take-board.ensures.legal (InstallCall c.args.job.claim) (InstallReply (read_installed c.install-reply.result)) c.number.result c.number.ensures.number
    (held c.args.pass.now c.take-board.result c.take-board.new.pass c.take-board.ensures.takes g.S.Subject.subject c.take-board.ensures.legal (read_job g.S.Subject.meaning c.args.job) c.requires.job).installs
    (ap InstallReply c.install-reply.ensures.reply) c.install-reply.ensures.history

pub returns-clause-verdict : goal.returns-clause-verdict
returns-clause-verdict g c =
    brought c.args.pass.now c.take-board.result c.take-board.new.pass c.take-board.ensures.takes g.S.Subject.subject c.take-board.ensures.legal (read_job g.S.Subject.meaning c.args.job) c.requires.job
    c.number.result c.install-reply.new.self c.give.new.pass (ap (λ (pass : Pass TableId Entry). pass.seen) c.give.ensures.gives) c.install-reply.ensures.history (Some (g.S.Subject.meaning c.args.verdict)) c.requires.verdict
