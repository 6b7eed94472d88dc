use Rattle.std.proofs.Common.{◌≡◌, ◌+◌, suc, get_or, true, ap, length, ◌∙◌, arith}
use Rattle.std.proofs.lemmas.Option.{slice_get-get_or}
use Rattle.std.proofs.Math.ListN.{length-set}
use Rattle.list_laws.proofs.Members.{place_member}
use Rattle.verdict_board.proofs.Parking.{marked_more}
use Rattle.verdict_board.proofs.place_set.PlaceSet.insert_all.Goals as goal

pub insert-requires : goal.insert-requires
insert-requires c =
    let here = slice_get-get_or c.args.places.now c.loop-place.place-index 0 c.loop-place-test.true in
    let within = c.requires (get_or c.args.places.now c.loop-place.place-index 0) (place_member c.args.places.now c.loop-place.place-index (get_or c.args.places.now c.loop-place.place-index 0) here) in
    let long = c.loop-place.invariant.long in
    omega (arith, within, long)

pub loop-place-preserved : goal.loop-place-preserved
loop-place-preserved c =
    let one : c.loop-place.place-index + 1 ≡ suc c.loop-place.place-index = omega arith in
    let place = get_or c.args.places.now c.loop-place.place-index 0 in
    let here = slice_get-get_or c.args.places.now c.loop-place.place-index 0 c.loop-place-test.true in
    record {
      long = ap length c.insert.ensures ∙ length-set c.loop-place.self place true ∙ c.loop-place.invariant.long;
      marked = rw (one, c.insert.ensures) (marked_more c.args.self.now c.loop-place.self c.args.places.now c.loop-place.place-index place here c.loop-place.invariant.marked);
    }
