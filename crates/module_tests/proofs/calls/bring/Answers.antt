use Rattle.board_meaning.specs.Machine.{InstallCall, ReleaseCall}
use Rattle.board_seats.proofs.Staying.{stays_after}
use Rattle.module_tests.proofs.calls.bring.Goals as goal

pub returns-in-Ok : goal.returns-in-Ok
returns-in-Ok g c = record { stays = λ number other apart may. rw c.install.ensures.history (stays_after g.S.Subject.subject c.args.board.now number other c.args.pass (InstallCall c.args.job.claim) apart may) }

pub returns-in-Err : goal.returns-in-Err
returns-in-Err g c = record { stays = λ number other apart may. rw c.release.ensures.history (stays_after g.S.Subject.subject c.args.board.now number other c.args.pass (ReleaseCall c.args.job.claim) apart may) }
