use Rattle.std.proofs.Common.{◌+◌, ◌/◌, length, arith}
use Rattle.std.specs.Fork.{AcceptsAt, ChangesAt}
use Rattle.worker_crew.proofs.Halves.{accepts_high, changes_both}
use Rattle.worker_crew.proofs.each_place.+halves.Goals as goal

pub each_from-both_halves-requires-clause-high : goal.each_from-both_halves-requires-clause-high
each_from-both_halves-requires-clause-high g t c κs within =
    let cut = c.split_at_mut-low.ensures in
    let halves = c.split_at_mut-low.result in
    accepts_high c.args.base c.args.items.now halves.0.now halves.1.now cut.value (AcceptsAt g.F.Fn c.args.f.now) (c.args.base + length c.args.items.now / 2)
    (omega (arith, cut.front_len)) c.requires.accepts

pub each_from-returns : goal.each_from-returns
each_from-returns g t c =
    let cut = c.split_at_mut-low.ensures in
    changes_both (ChangesAt g.F.Fn c.args.f.now) c.args.base _ _ _ _ _ _ cut.value (omega (arith, cut.front_len)) c.both_halves.auto.low c.both_halves.ensures.low c.both_halves.ensures.high
