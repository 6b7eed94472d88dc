use Rattle.saved_log_laws.proofs.Appending.{first, written, second, opened}
use Rattle.saved_log_laws.proofs.append_laws.law_append_writes.Goals as goal

pub returns-clause-first : goal.returns-clause-first
returns-clause-first g c = λ file gate piece before after ready follows. first file (g.S.DiskState.images c.args.disk.now) gate piece before after ready (g.S.DiskState.images c.args.torn.now) follows

pub returns-clause-second : goal.returns-clause-second
returns-clause-second g c = λ file gate piece before after ready staged holds only follows. second file (g.S.DiskState.images c.args.disk.now) gate piece before after ready staged (g.S.DiskState.images c.args.synced.now) (g.S.DiskState.images c.args.torn.now) (written file (g.S.DiskState.images c.args.disk.now) gate piece before after ready staged holds) only follows

pub returns-clause-both : goal.returns-clause-both
returns-clause-both g c = λ file gate piece before after ready staged new holds done. opened file (g.S.DiskState.images c.args.disk.now) gate piece before after ready staged new (written file (g.S.DiskState.images c.args.disk.now) gate piece before after ready staged holds) done
