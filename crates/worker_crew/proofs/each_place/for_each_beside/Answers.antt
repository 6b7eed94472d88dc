use Rattle.std.proofs.Common.{◌≡◌, ◌+◌, refl, arith}
use Rattle.std.specs.Fork.{ChangesAt}
use Rattle.worker_crew.proofs.Halves.{moved}
use Rattle.worker_crew.proofs.each_place.for_each_beside.Goals as goal

pub returns : goal.returns
returns g c i d lt =
    let place : 0 + i ≡ i = omega arith in
    (refl, moved (ChangesAt g.F.Fn c.args.f.now) place refl refl (c.each_from.ensures.at i d lt))
