use Rattle.saved_log_laws.proofs.Moments.{time_goes_on, started, goes_on}
use Rattle.saved_log_laws.proofs.disk_laws.law_moments.Goals as goal

pub returns-clause-time : goal.returns-clause-time
returns-clause-time g c = λ before between now first second. time_goes_on before between now (g.S.DiskState.left_since c.args.old.now) (g.S.DiskState.left_since c.args.between.now) (g.S.DiskState.left_since c.args.new.now) (g.S.DiskState.images c.args.between.now) (g.S.DiskState.images c.args.new.now) first second

pub returns-clause-start : goal.returns-clause-start
returns-clause-start g c = started g.S.DiskState.moment_of g.S.DiskState.left_since c.args.old.now (g.W.DiskState.images c.args.wanted.now)

pub returns-clause-go_on : goal.returns-clause-go_on
returns-clause-go_on g c = goes_on g.S.DiskState.moment_of g.S.DiskState.left_since c.args.old.now c.args.between.now c.args.new.now (g.W.DiskState.images c.args.wanted.now) (g.S.DiskState.images c.args.new.now)
