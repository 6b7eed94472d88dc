use Rattle.std.proofs.Common.{refl, ◌∙◌, arith}
use Rattle.name_meaning.specs.Rows.{row_names}
use Rattle.name_laws.proofs.Order.{member_among}
use Rattle.name_laws.proofs.Rows.{row_among}
use Rattle.list_laws.proofs.Members.{place_member}
use Rattle.list_laws.proofs.Places.{place_within}
use Rattle.verdict_board.specs.declared.stage.Stage.TheVariants.{Waiting}
use Rattle.verdict_board.proofs.Parking.{names_long, put_waiting}
use Rattle.verdict_board.proofs.candidates.wait_at.Goals as goal

pub replace-requires : goal.replace-requires
replace-requires g c = row_among c.args.stages.now c.args.name.now ∙ member_among (row_names c.args.stages.now) c.args.name.now (place_member (row_names c.args.stages.now) c.args.place c.args.name.now c.requires.named)

pub insert-requires : goal.insert-requires
insert-requires g c =
    let each = c.requires.kept.1.each_candidate in
    let named = names_long c.args.stages.now in
    let within = place_within (row_names c.args.stages.now) c.args.place c.args.name.now c.requires.named in
    omega (arith, each, named, within)

pub returns-clause-kept : goal.returns-clause-kept
returns-clause-kept g c graph k =
    let there = row_among c.args.stages.now c.args.name.now ∙ member_among (row_names c.args.stages.now) c.args.name.now (place_member (row_names c.args.stages.now) c.args.place c.args.name.now c.requires.named) in
    rw (c.replace.ensures, c.insert.ensures)
    (put_waiting c.args.stages.now graph (λ list. list.items) c.args.candidates.now.candidate c.args.candidates.now.parked.items k c.args.name.now Waiting c.args.place c.requires.named there refl)
