use Rattle.std.proofs.Common.{refl}
use Rattle.board_meaning.specs.Machine.{ClaimCall}
use Rattle.board_seats.proofs.Staying.{stays_after}
use Rattle.module_tests.proofs.Handed.{handed, placed}
use Rattle.module_tests.proofs.calls.claim.Goals as goal

pub returns-in-Ok-clause-may_end : goal.returns-in-Ok-clause-may_end
returns-in-Ok-clause-may_end g c = rw c.in-Ok.ensures.history (handed g.S.Subject.subject g.S.Subject.meaning c.args.board.now c.args.pass c.entries.ensures.legal c.in-Ok.job c.in-Ok.ensures.job)

pub returns-in-Ok-clause-place : goal.returns-in-Ok-clause-place
returns-in-Ok-clause-place g c = placed g.S.Subject.subject g.S.Subject.meaning c.args.board.now c.in-Ok.job c.in-Ok.ensures.job

pub returns-in-Ok-clause-stays : goal.returns-in-Ok-clause-stays
returns-in-Ok-clause-stays g c number job may = rw c.in-Ok.ensures.history (stays_after g.S.Subject.subject c.args.board.now number job c.args.pass ClaimCall refl may)
