use Rattle.std.proofs.Common.{◌≡◌, ◌≤◌, suc, ◌+◌, drop, length, Some, refl, sym, ap, ◌∙◌, subst, arith}
use Rattle.std.specs.Prelude.{slice_get}
use Rattle.std.proofs.lemmas.List.{length-map, drop_all}
use Rattle.std.proofs.lemmas.Result.{err_from_is_err_and}
use Rattle.answer_meaning.specs.Answers.{◌>>=◌}
use Rattle.link_meaning.specs.Passes.{map_all}
use Rattle.term_trees.specs.Readings.{read_declaration, read_map, read_signature}
use Rattle.link_setting.specs.Readings.{read_all_assigned, read_setting}
use Rattle.link_setting.proofs.Chained.{same_fault}
use Rattle.link_setting.proofs.FirstRefusals.{refuses_then}
use Rattle.list_laws.proofs.Places.{drop_here}
use Rattle.mapping_laws.specs.NextImages.{StandsBefore}
use Rattle.mapping_laws.proofs.NextMapped.{next_is_mapped, next_stands_before}
use Rattle.link_passes.proofs.SharedImages.{image_added}
use Rattle.link_passes.proofs.Imaging.{image_at, no_more}
use Rattle.link_passes.proofs.images.add_images.Goals as goal
use Rattle.link_passes.proofs.images.add_images.Goals.{in-Some+in_ok-add_image, in_default}

pub loop-index-init : goal.loop-index-init
loop-index-init c = record { left = refl; before = c.requires.before }

pub returns-in_err-add_image : goal.returns-in_err-add_image
returns-in_err-add_image c =
    let setting = read_setting c.args.setting.now in
    let assigned = read_all_assigned c.args.assigned.now in
    let own = read_signature c.args.own.now in
    let i = c.loop-index.index in
    let d = read_declaration c.in-Some.decl.now in
    let there : slice_get own i ≡ Some d = sym c.in-Some.ensures.meaning in
    let whole = sym c.loop-index.invariant.left ∙ image_at setting assigned (read_map c.loop-index.along) own i d there (c.requires.own i d there) in
    let p = err_from_is_err_and c.from_residual.result c.from_residual.ensures.1 in
    rw (p.1, p.2) (same_fault c.in_err-add_image.field-0.0 _ _ whole (refuses_then c.in_err-add_image.field-0.0 _ (λ along. map_all setting assigned along (drop (suc i) own)) c.in_err-add_image.ensures))

pub loop-index-preserved : goal.loop-index-preserved
loop-index-preserved c =
    let setting = read_setting c.args.setting.now in
    let assigned = read_all_assigned c.args.assigned.now in
    let own = read_signature c.args.own.now in
    let i = c.loop-index.index in
    let plus : i + 1 ≡ suc i = omega arith in
    elim c.match-at.branch [
      | in-Some+in_ok-add_image w ↦
          let d = read_declaration w.in-Some.decl.now in
          let there : slice_get own i ≡ Some d = sym w.in-Some.ensures.meaning in
          let whole = image_at setting assigned (read_map c.loop-index.along) own i d there (c.requires.own i d there) in
          let added = image_added setting assigned (read_map c.loop-index.along) d (read_map w.add_image.new.along) w.in_ok-add_image.ensures in
          rw w.along-is (record {
            left = ap (λ j. map_all setting assigned (read_map w.add_image.new.along) (drop j own)) plus
                ∙ sym (ap (λ r. r >>= (λ along. map_all setting assigned along (drop (suc i) own))) w.in_ok-add_image.ensures) ∙ sym whole ∙ c.loop-index.invariant.left;
            before = subst (λ j. StandsBefore (read_map w.add_image.new.along) (drop j own)) (sym plus) (subst (λ z. StandsBefore z (drop (suc i) own)) (sym added.2)
                (next_stands_before (read_map c.loop-index.along) d (drop (suc i) own) added.0 (subst (StandsBefore (read_map c.loop-index.along)) (drop_here own i d there) c.loop-index.invariant.before) added.1));
          })
      | in_default w ↦ absurd (omega (arith, w.in_default.ensures.none.0 refl))
    ]

pub returns : goal.returns
returns c =
    let own = read_signature c.args.own.now in
    let past : length own ≤ c.loop-index.index = omega (arith, length-map c.args.own.now read_declaration, c.len-index-end.ensures.len) in
    sym c.loop-index.invariant.left ∙ no_more (read_setting c.args.setting.now) (read_all_assigned c.args.assigned.now) (read_map c.loop-index.along) _ (drop_all c.loop-index.index own past)

pub add_image-requires-clause-next : goal.add_image-requires-clause-next
add_image-requires-clause-next c =
    let own = read_signature c.args.own.now in
    let i = c.loop-index.index in
    let d = read_declaration c.in-Some.decl.now in
    let there : slice_get own i ≡ Some d = sym c.in-Some.ensures.meaning in
    next_is_mapped (read_map c.loop-index.along) d (drop (suc i) own) (subst (StandsBefore (read_map c.loop-index.along)) (drop_here own i d there) c.loop-index.invariant.before)
