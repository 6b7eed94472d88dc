use Rattle.std.proofs.Common.{◌≡◌, ◌∙◌, suc, ◌+◌, [], ◌∷◌, ◌++◌, length, take, refl, sym, ap, arith}
use Rattle.std.proofs.lemmas.List.{length-map}
use Rattle.list_laws.proofs.Places.{take_more, take_length}
use Rattle.term_trees.specs.Readings.{read_map, read_mapping}
use Rattle.lf_terms.proofs.EarlierConstants.{new_behind_copies}
use Rattle.lf_terms.proofs.head_map.HeadMap.copy.Goals as goal
use Rattle.lf_terms.proofs.head_map.HeadMap.copy.Goals.{in-Some+in_ok-push_copy, in_default}

pub loop-i-init : goal.loop-i-init
loop-i-init c = ap read_map c.new-copied.ensures

pub push_copy-requires : goal.push_copy-requires
push_copy-requires c =
    new_behind_copies c.args.self.now c.loop-i.copied c.loop-i.i (c.in-Some.name.now, c.in-Some.image.now) c.len-i-end.ensures.distinct c.loop-i.invariant (sym c.in-Some.ensures.item)

pub loop-i-preserved : goal.loop-i-preserved
loop-i-preserved c =
    let all = read_map c.args.self.now in
    let i = c.loop-i.i in
    let plus : suc i ≡ i + 1 = omega arith in
    elim c.match-at.branch [
      | in-Some+in_ok-push_copy w ↦
          let mapping = read_mapping (w.in-Some.name.now, w.in-Some.image.now) in
          let more = take_more all i mapping (sym w.in-Some.ensures.meaning) in
          ap read_map w.copied-is ∙ w.in_ok-push_copy.ensures ∙ ap (λ z. z ++ mapping ∷ []) c.loop-i.invariant ∙ sym more ∙ ap (λ j. take j all) plus
      | in_default w ↦ absurd (omega (arith, c.len-i-end.ensures.len, w.in_default.ensures.none.0 refl))
    ]

pub returns : goal.returns
returns c =
    let all = read_map c.args.self.now in
    let counted = length-map c.args.self.now read_mapping in
    let long = c.len-i-end.ensures.len in
    let within = c.loop-i.auto.i-end in
    let end : c.loop-i.i ≡ length all = omega (arith, counted, long, within) in
    c.loop-i.invariant ∙ ap (λ n. take n all) end ∙ take_length all
