use Rattle.std.proofs.Common.{◌≡◌, ◌≤◌, ◌+◌, [], ◌∷◌, ◌++◌, length, map, drop, Some, refl, ap, sym, ◌∙◌, arith}
use Rattle.std.specs.Prelude.{slice_get}
use Rattle.std.proofs.lemmas.List.{length-map}
use Rattle.std.proofs.lemmas.Result.{err_from_is_err_and}
use Rattle.lf_meaning.specs.HeadMaps.{Mapping}
use Rattle.translation_meaning.specs.Translation.{translate_image}
use Rattle.translation_meaning.specs.Unmapped.{unmapped_map}
use Rattle.term_trees.specs.Readings.{read_map, read_mapping}
use Rattle.lf_terms.proofs.EarlierConstants.{new_behind}
use Rattle.lf_translate.specs.Images.{unmapped_image}
use Rattle.lf_translate.proofs.Faults.{names_first, rest_after}
use Rattle.lf_translate.proofs.ListsLeft.{missing_left, composed_more, composed_none, nothing_missing, composed_all, composed_names}
use Rattle.lf_translate.proofs.maps.compose.Goals as goal
use Rattle.lf_translate.proofs.maps.compose.Goals.{in-Some+in_ok-add_translated, in_default}

pub loop-i-init : goal.loop-i-init
loop-i-init c = record { translated = ap read_map c.new-composed.ensures ∙ composed_none (read_map c.args.second.now); missing = refl }

pub returns-in_err-add_translated : goal.returns-in_err-add_translated
returns-in_err-add_translated c =
    let first = read_map c.args.first.now in
    let second = read_map c.args.second.now in
    let i = c.loop-i.i in
    let p = err_from_is_err_and c.from_residual.result c.from_residual.ensures.1 in
    let mapping = read_mapping (c.in-Some.name.now, c.in-Some.image.now) in
    let there : slice_get first i ≡ Some mapping = sym c.in-Some.ensures.meaning in
    let whole = missing_left second first i mapping there ∙ c.loop-i.invariant.missing in
    rw (p.1, p.2) (names_first c.in_err-add_translated.field-0.0 (unmapped_image second mapping.image) (unmapped_map second (drop (i + 1) first)) (unmapped_map second first) whole c.in_err-add_translated.ensures)

pub add_translated-requires : goal.add_translated-requires
add_translated-requires c =
    new_behind c.args.first.now c.loop-i.composed c.loop-i.i (c.in-Some.name.now, c.in-Some.image.now) c.len-i-end.ensures.distinct
    (ap (map (λ (m : Mapping). m.name)) c.loop-i.invariant.translated ∙ composed_names (read_map c.args.second.now) (read_map c.args.first.now) c.loop-i.i) (sym c.in-Some.ensures.item)

pub loop-i-preserved : goal.loop-i-preserved
loop-i-preserved c =
    let first = read_map c.args.first.now in
    let second = read_map c.args.second.now in
    let i = c.loop-i.i in
    elim c.match-at.branch [
      | in-Some+in_ok-add_translated w ↦
          let mapping = read_mapping (w.in-Some.name.now, w.in-Some.image.now) in
          let there : slice_get first i ≡ Some mapping = sym w.in-Some.ensures.meaning in
          let added = w.in_ok-add_translated.ensures in
          let whole = missing_left second first i mapping there in
          record {
            translated = ap read_map w.composed-is ∙ added.1 ∙ ap (λ ms. ms ++ record { name = mapping.name; image = translate_image second mapping.image } ∷ []) c.loop-i.invariant.translated ∙ composed_more second first i mapping there;
            missing = rest_after (unmapped_image second mapping.image) (unmapped_map second (drop (i + 1) first)) (unmapped_map second (drop i first)) whole added.0 ∙ c.loop-i.invariant.missing;
          }
      | in_default w ↦ absurd (omega (arith, c.len-i-end.ensures.len, w.in_default.ensures.none.0 refl))
    ]

pub returns : goal.returns
returns c =
    let first = read_map c.args.first.now in
    let second = read_map c.args.second.now in
    let past : length first ≤ c.loop-i.i = omega (arith, length-map c.args.first.now read_mapping, c.len-i-end.ensures.len) in
    (sym c.loop-i.invariant.missing ∙ nothing_missing second first c.loop-i.i past, c.loop-i.invariant.translated ∙ composed_all second first c.loop-i.i past)
