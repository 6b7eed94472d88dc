use Rattle.std.proofs.Common.{arith}
use Rattle.turn_lock.proofs.Keeping.{draws}
use Rattle.turn_lock.proofs.steps.draw.Goals as goal

pub compare_exchange-requires : goal.compare_exchange-requires
compare_exchange-requires g c = (
  c.requires.table.same,
  omega (arith, c.requires.table.words),
  draws g.T.Story.entries g.T.Story.number c.args.top.now.table_id.slots c.args.place.now.id c.args.place.now.me c.args.next c.requires.idle c.requires.room,
)
