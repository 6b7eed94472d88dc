use Rattle.std.proofs.Common.{◌≡◌, ◌+◌, ◌≤◌, suc, Some, ◌∷◌, ◌++◌, [], take, length, sym, ap, ◌∙◌, subst, true≢false, arith}
use Rattle.std.specs.Prelude.{slice_get}
use Rattle.std.proofs.lemmas.List.{take_all}
use Rattle.list_laws.proofs.Places.{take_more, length_take}
use Rattle.lf_terms.specs.Tables.{with_place, HasFirstPlaces}
use Rattle.lf_terms.proofs.FirstPlaces.{table_notes}
use Rattle.lf_terms.proofs.flat_sig.first_places.Goals as goal
use Rattle.lf_terms.proofs.flat_sig.first_places.Goals.{in-Some+in_ok-note_place, in_default}

pub loop-index-preserved : goal.loop-index-preserved
loop-index-preserved c =
    let decls = c.args.decls.now.keys in
    let i = c.loop-index.index in
    let plus : suc i ≡ i + 1 = omega arith in
    elim c.match-get_index.branch [
      | in-Some+in_ok-note_place w ↦
          let d = w.declaration.result.now in
          let there : slice_get decls i ≡ Some d = sym w.in-Some.ensures.key ∙ ap Some (sym w.declaration.ensures) in
          let long : length (take i decls) ≡ i = length_take decls i (omega (arith, c.len-index-end.ensures.len, c.loop-index-test.true)) in
          let noted = table_notes c.loop-index.places.entries (take i decls) d c.loop-index.invariant in
          let placed = subst (λ n. HasFirstPlaces (with_place c.loop-index.places.entries d.name.path n) (take i decls ++ d ∷ [])) long noted in
          let more = subst (λ ds. HasFirstPlaces (with_place c.loop-index.places.entries d.name.path i) ds) (sym (take_more decls i d there) ∙ ap (λ n. take n decls) plus) placed in
          subst (λ ps. HasFirstPlaces ps (take (i + 1) decls)) (sym w.in_ok-note_place.ensures ∙ (λ j. (sym w.places-is j).entries)) more
      | in_default w ↦ absurd (true≢false (sym (w.in_default.ensures.found.1 (omega (arith, c.len-index-end.ensures.len, c.loop-index-test.true)))))
    ]

pub returns : goal.returns
returns c =
    let decls = c.args.decls.now.keys in
    let past : length decls ≤ c.loop-index.index = omega (arith, c.len-index-end.ensures.len, c.loop-index-test.false) in
    subst (HasFirstPlaces c.loop-index.places.entries) (take_all c.loop-index.index decls past) c.loop-index.invariant
