use Rattle.std.proofs.Common.{arith}
use Rattle.verdict_board.proofs.Parking.{wired}
use Rattle.verdict_board.proofs.candidates.renew.Goals as goal

pub insert-requires : goal.insert-requires
insert-requires g c =
    let each = c.requires.kept.1.each_candidate in
    let within = c.place_of-place.ensures.within in
    omega (arith, each, within)

pub returns : goal.returns
returns g c graph k dependencies =
    rw c.insert.ensures
    (wired c.args.stages.now graph (λ list. list.items) c.args.candidates.now.candidate c.args.candidates.now.parked.items k c.args.name.now dependencies c.place_of-place.result c.place_of-place.ensures.named)
