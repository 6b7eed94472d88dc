use Rattle.std.proofs.Common.{◌≡◌, ◌+◌, suc, Bool, true, false, not, Some, is_some, refl, sym, ap, ◌∙◌, subst, true≢false, arith}
use Rattle.std.proofs.lemmas.Option.{slice_get-get_or}
use Rattle.list_laws.proofs.Answers.{where_missing}
use Rattle.list_laws.proofs.Members.{Member, place_member}
use Rattle.list_laws.proofs.Options.{copied_some}
use Rattle.verdict_board.proofs.Parking.{stage_lacks, absent_lacks, none_more}
use Rattle.verdict_board.proofs.candidates.first_lacking.Goals as goal
use Rattle.verdict_board.proofs.candidates.first_lacking.Goals.{in-Ok+else-is_none, in_default}

turned : (a b : Bool) → a ≡ not b → b ≡ not a
turned true true h = absurd (true≢false h)
turned true false h = refl
turned false true h = refl
turned false false h = absurd (true≢false (sym h))

pub returns-then-is_none : goal.returns-then-is_none
returns-then-is_none g c =
    let here = slice_get-get_or c.as_slice-name-items.result.now c.loop-name.name-index c.name-item.result c.loop-name-test.true ∙ ap Some (sym c.name-item.is) in
    let lacks = sym (turned (is_some c.standing.result) c.is_none.result c.is_none.ensures ∙ ap not (sym (copied_some c.standing.result) ∙ ap is_some c.standing.ensures)) ∙ c.if-is_none.true in
    record {
      name = c.name-item.result;
      named = c.in-Ok.ensures.found;
      among = subst (Member c.name-item.result) c.as_slice-name-items.ensures (place_member c.as_slice-name-items.result.now c.loop-name.name-index c.name-item.result here);
      lacks = stage_lacks c.args.stages.now c.requires c.in-Ok.place c.name-item.result c.row_at.result.0.now c.row_at.result.1.now true c.in-Ok.ensures.found c.row_at.ensures lacks;
    }

pub loop-name-preserved : goal.loop-name-preserved
loop-name-preserved g c =
    let one : c.loop-name.name-index + 1 ≡ suc c.loop-name.name-index = omega arith in
    let here = slice_get-get_or c.as_slice-name-items.result.now c.loop-name.name-index c.name-item.result c.loop-name-test.true ∙ ap Some (sym c.name-item.is) in
    rw one (none_more c.args.stages.now c.requires c.as_slice-name-items.result.now c.loop-name.name-index c.name-item.result here c.loop-name.invariant
    (elim c.match-place.branch [
      | in-Ok+else-is_none w ↦ stage_lacks c.args.stages.now c.requires w.in-Ok.place c.name-item.result w.row_at.result.0.now w.row_at.result.1.now false w.in-Ok.ensures.found w.row_at.ensures
          (sym (turned (is_some w.standing.result) w.is_none.result w.is_none.ensures ∙ ap not (sym (copied_some w.standing.result) ∙ ap is_some w.standing.ensures)) ∙ w.if-is_none.false)
      | in_default w ↦ let q = where_missing c.place.result _ w.in_default.not-Ok c.place.ensures.absent in absent_lacks c.args.stages.now c.requires c.name-item.result q.0 q.1
    ]))
