use Rattle.std.proofs.Common.{arith}
use Rattle.turn_lock.proofs.Turning.{enters}
use Rattle.turn_lock.proofs.steps.enter.Goals as goal

pub fetch_add-requires : goal.fetch_add-requires
fetch_add-requires g c =
    let entry = c.requires.entry in (
      c.requires.table.same,
      omega (arith, c.requires.table.words),
      enters g.T.Story.entries g.T.Story.number c.args.top.now.table_id.slots c.args.place.now.id c.args.place.now.me entry.0 entry.1 entry.2 g.N.Adding.added c.requires.turn entry.3 entry.4 entry.5 c.requires.room,
    )
