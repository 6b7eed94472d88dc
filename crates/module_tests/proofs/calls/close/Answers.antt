use Rattle.std.proofs.Common.{refl}
use Rattle.board_meaning.specs.Machine.{CloseCall}
use Rattle.board_seats.proofs.Staying.{stays_after}
use Rattle.module_tests.proofs.calls.close.Goals as goal

pub returns : goal.returns
returns g c = record { stays = λ number job may. rw c.close.ensures (stays_after g.S.Subject.subject c.args.board.now number job 0 CloseCall refl may) }
