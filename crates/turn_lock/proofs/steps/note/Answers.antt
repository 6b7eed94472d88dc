use Rattle.std.proofs.Common.{arith}
use Rattle.turn_lock.proofs.Turning.{notes}
use Rattle.turn_lock.proofs.steps.note.Goals as goal

pub load-requires : goal.load-requires
load-requires g c = (
  c.requires.table.same,
  omega (arith, c.requires.table.words),
  notes g.T.Story.entries g.T.Story.number c.args.top.now.table_id.slots c.args.place.now.id c.args.place.now.me c.requires.found c.requires.named c.requires.empty,
)
