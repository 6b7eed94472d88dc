use Rattle.std.proofs.Common.{arith, ◌∙◌, ap}
use Rattle.turn_lock.specs.Steps.{Place}
use Rattle.turn_lock.proofs.Joining.{joins, merges}
use Rattle.turn_lock.proofs.steps.join_in.Goals as goal

pub join_seat-requires : goal.join_seat-requires
join_seat-requires g c =
    let table = c.requires.table in
    let alone = c.requires.alone in (
      table.0.same,
      table.1,
      c.requires.empty,
      omega (arith, table.0.words),
      joins g.T.Story.entries g.T.Story.number c.args.place.now.id c.args.place.now.me.0 c.args.other.id c.args.other.me.0 alone.0 alone.1,
    )

pub load-requires : goal.load-requires
load-requires g c =
    let named = c.requires.named in
    let joined = c.join_seat.ensures in (
      joined.0 ∙ c.requires.table.0.same,
      omega (arith, c.requires.table.0.words),
      merges g.T.Story.entries g.T.Story.number c.args.top.now.table_id.slots c.join_seat.new.seat.id c.join_seat.new.seat.me named.0 named.1
          (ap (λ (me : Place g.row.T.Denot g.row.T-Entry.Denot). me.0.stage) joined.2 ∙ c.requires.alone.0.idle) (ap (λ (me : Place g.row.T.Denot g.row.T-Entry.Denot). me.0.numbers) joined.2 ∙ named.2),
    )
