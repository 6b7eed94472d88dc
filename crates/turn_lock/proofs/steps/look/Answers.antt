use Rattle.std.proofs.Common.{arith}
use Rattle.turn_lock.proofs.Keeping.{looks}
use Rattle.turn_lock.proofs.steps.look.Goals as goal

pub load-requires : goal.load-requires
load-requires g c = (
  c.requires.table.same,
  omega (arith, c.requires.table.words),
  looks g.T.Story.entries g.T.Story.number c.args.top.now.table_id.slots c.args.place.now.id c.args.place.now.me c.args.own c.requires.drawn,
)
