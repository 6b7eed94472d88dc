use Rattle.std.proofs.Common.{◌≡◌, Bool, List, ℕ, Some, cond, length, slice_get, sym, ap, ◌∙◌, subst, arith, rules}
use Rattle.std.specs.Vec.{vec_len}
use Rattle.std.proofs.lemmas.Option.{slice_get-get_or}
use Rattle.name_meaning.specs.Rows.{row_of, with_row}
use Rattle.name_laws.proofs.Order.{same_itself}
use Rattle.name_laws.proofs.Rows.{row_with}
use Rattle.list_laws.proofs.Members.{Member}
use Rattle.verdict_board.specs.Readiness.{lacks_verdict, AreMarked}
use Rattle.verdict_board.proofs.Parking.{names_put, parked_none, put_standing}
use Rattle.verdict_board.proofs.candidates.stand.Goals as goal

pub insert_all-requires : goal.insert_all-requires
insert_all-requires g c place m =
    let k = c.requires.kept.1 in
    let each = k.each_candidate in
    let parked = k.each_parked in
    let within = c.place_of-place.ensures.within in
    let list = slice_get-get_or c.args.candidates.now.parked.items c.place_of-place.result c.index.result.now (omega (arith, parked, within)) ∙ ap Some (sym c.index.ensures) in
    let less = k.within c.place_of-place.result place c.index.result.now list (subst (Member place) c.deref.ensures.value m) in
    omega (arith, each, less)

pub index_mut-requires : goal.index_mut-requires
index_mut-requires g c =
    let k = c.requires.kept.1 in
    let parked = k.each_parked in
    let within = c.place_of-place.ensures.within in
    let long : vec_len c.args.candidates.now.parked ≡ length c.args.candidates.now.parked.items = search rules in
    omega (arith, long, parked, within)

pub returns-clause-kept : goal.returns-clause-kept
returns-clause-kept g c graph k =
    let parked = k.each_parked in
    let within = c.place_of-place.ensures.within in
    let list = slice_get-get_or c.args.candidates.now.parked.items c.place_of-place.result c.index.result.now (omega (arith, parked, within)) ∙ ap Some (sym c.index.ensures) in
    let marked = subst (λ (places : List ℕ). AreMarked c.args.candidates.now.candidate c.insert_all.new.self places) c.deref.ensures.value c.insert_all.ensures.marked in
    let named = ap (λ names. slice_get names c.place_of-place.result) (names_put c.args.stages.now k.table c.args.name.now c.args.stage c.requires.there) ∙ c.place_of-place.ensures.named in
    let stands = ap lacks_verdict (row_with c.args.name.now c.args.stage c.args.stages.now c.args.name.now ∙ ap (λ (b : Bool). cond b (Some c.args.stage) (row_of c.args.stages.now c.args.name.now)) (same_itself c.args.name.now)) ∙ c.requires.stands in
    rw c.replace.ensures
    (parked_none (with_row c.args.name.now c.args.stage c.args.stages.now) graph (λ list. list.items) c.insert_all.new.self c.args.candidates.now.parked.items
    (put_standing c.args.stages.now graph (λ list. list.items) c.args.candidates.now.candidate c.args.candidates.now.parked.items k c.insert_all.new.self c.args.name.now c.args.stage c.place_of-place.result c.index.result.now
    c.place_of-place.ensures.named c.requires.there c.requires.waits_not list c.insert_all.ensures.length marked)
    c.place_of-place.result c.args.name.now c.clear.new.self named stands c.clear.ensures.items)
