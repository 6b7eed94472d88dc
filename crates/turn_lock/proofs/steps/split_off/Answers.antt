use Rattle.std.proofs.Common.{arith, ◌∙◌, ap}
use Rattle.turn_lock.specs.Steps.{Place}
use Rattle.turn_lock.proofs.Splitting.{tells, splits}
use Rattle.turn_lock.proofs.steps.split_off.Goals as goal

pub load-requires : goal.load-requires
load-requires g c = (
  c.requires.table.same,
  omega (arith, c.requires.table.words),
  tells g.T.Story.entries g.T.Story.number c.args.top.now.table_id.slots c.args.first.now.id c.args.first.now.me,
)

pub split_seat-requires : goal.split_seat-requires
split_seat-requires g c =
    let first = c.requires.first in
    let told = c.load.ensures in (
      told.0 ∙ c.requires.table.same,
      omega (arith, c.requires.table.words),
      splits g.T.Story.entries g.T.Story.number c.load.new.seat.id c.load.new.seat.me.0 first.0 (ap (λ (me : Place g.row.T.Denot g.row.T-Entry.Denot). me.0.numbers) told.2.0 ∙ first.1),
    )
