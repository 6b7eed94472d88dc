use Rattle.saved_log_laws.proofs.LastGates.{is_ready}
use Rattle.saved_log_laws.proofs.Appending.{at_start, starts, written, long}
use Rattle.saved_log_laws.proofs.append_laws.law_ready.Goals as goal

pub returns-clause-ready : goal.returns-clause-ready
returns-clause-ready g c = λ file log edit last takes only. is_ready file log edit (g.S.DiskState.images c.args.disk.now) last takes only

pub returns-clause-before : goal.returns-clause-before
returns-clause-before g c = λ file gate piece before after ready. at_start file (g.S.DiskState.images c.args.disk.now) gate piece before after ready

pub returns-clause-places : goal.returns-clause-places
returns-clause-places g c = λ file gate piece before after ready. (starts file (g.S.DiskState.images c.args.disk.now) gate piece before after ready, λ staged holds. long file (g.S.DiskState.images c.args.disk.now) gate piece before after ready staged (written file (g.S.DiskState.images c.args.disk.now) gate piece before after ready staged holds))
