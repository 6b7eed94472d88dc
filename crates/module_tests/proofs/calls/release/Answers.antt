use Rattle.board_meaning.specs.Machine.{ReleaseCall}
use Rattle.board_seats.proofs.Staying.{stays_after}
use Rattle.module_tests.proofs.calls.release.Goals as goal

pub returns : goal.returns
returns g c = record { stays = λ number other apart may. rw c.release.ensures.history (stays_after g.S.Subject.subject c.args.board.now number other c.args.pass (ReleaseCall c.args.job.claim) apart may) }
