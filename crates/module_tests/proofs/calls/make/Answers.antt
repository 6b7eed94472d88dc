use Rattle.std.proofs.Common.{refl}
use Rattle.board_meaning.specs.Machine.{EditCall}
use Rattle.edit_log.specs.Readings.{read_edit}
use Rattle.board_seats.proofs.Staying.{stays_after}
use Rattle.module_tests.proofs.calls.make.Goals as goal

pub returns-in-Made : goal.returns-in-Made
returns-in-Made g c = record { stays = λ number job may. rw c.in-Ok.ensures.history (stays_after g.S.Subject.subject c.args.board.now number job 0 (EditCall (read_edit c.args.edit)) refl may) }

pub returns-in_default : goal.returns-in_default
returns-in_default g c = record { stays = λ number job may. rw c.in-Ok.ensures.history (stays_after g.S.Subject.subject c.args.board.now number job 0 (EditCall (read_edit c.args.edit)) refl may) }
