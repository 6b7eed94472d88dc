use Rattle.std.proofs.Common.{arith}
use Rattle.turn_lock.proofs.Turning.{passes}
use Rattle.turn_lock.proofs.steps.pass_on.Goals as goal

pub fetch_add-requires : goal.fetch_add-requires
fetch_add-requires g c =
    let hand = c.requires.hand in (
      c.requires.table.same,
      omega (arith, c.requires.table.words),
      passes g.T.Story.entries g.T.Story.number c.args.top.now.table_id.slots c.args.place.now.id c.args.place.now.me hand.0 c.requires.turn hand.1 hand.2,
    )
