use Rattle.std.proofs.Common.{◌≡◌, ℕ, suc, ◌+◌, ◌<◌, ◌≤◌, List, ◌∷◌, ◌++◌, Some, length, drop, refl, sym, ap, ◌∙◌, append_assoc, arith}
use Rattle.std.specs.Prelude.{slice_get}
use Rattle.std.proofs.lemmas.List.{drop_all}
use Rattle.list_laws.proofs.Places.{drop_here, get_front, get_behind}
use Rattle.name_meaning.specs.Names.{Name}
use Rattle.base_types.specs.declared.qname.QName.{QName}
use Rattle.term_trees.specs.declared.flat_decl.Image.{Image}
use Rattle.lf_terms.specs.Parts.{pairs_of, Parts}
use Rattle.lf_terms.proofs.Lookup.{mapping_at, none_at, nothing_behind}
use Rattle.lf_terms.proofs.head_map.HeadMap.at.Goals as goal
use Rattle.lf_terms.proofs.head_map.HeadMap.at.Goals.{in-Some+else-left-len, in_default}

-- The parts from this one on.
parts_here : (parts : Parts) (own : List (QName × Image)) (index : ℕ) (theory : Name) (images : List (QName × Image)) → slice_get parts index ≡ Some (theory, images)
    → pairs_of (drop index parts) ++ own ≡ images ++ (pairs_of (drop (index + 1) parts) ++ own)
parts_here parts own index theory images there =
    let next : suc index ≡ index + 1 = omega arith in
    ap (λ (p : Parts). pairs_of p ++ own) (drop_here parts index (theory, images) there ∙ ap (λ j. (theory, images) ∷ drop j parts) next)
    ∙ append_assoc images (pairs_of (drop (index + 1) parts)) own

pub returns-then-left-len : goal.returns-then-left-len
returns-then-left-len c =
    let parts = c.self.inside.parts.entries in
    let own = c.self.inside.own.entries in
    let index = c.loop-index.index in
    let left = c.loop-index.left in
    let images = c.in-Some.part.now in
    let rest = pairs_of (drop (index + 1) parts) ++ own in
    let here = parts_here parts own index c.in-Some.field-0-0.now images (sym c.in-Some.ensures.entry) in
    let within : left < length images = let long = ap length c.get-part.ensures in omega (arith, long, c.len-len.ensures.len, c.if-left-len.true) in
    let item = c.at.ensures ∙ ap (λ (es : List (QName × Image)). slice_get es left) c.get-part.ensures ∙ sym (get_front images rest left within)
    ∙ ap (λ (es : List (QName × Image)). slice_get es left) (sym here) ∙ c.loop-index.invariant ∙ ap (λ (es : List (QName × Image)). slice_get es c.args.i) c.self.view_is in
    record { item = item; none = none_at c.args.self.now c.args.i c.at.result item; meaning = mapping_at c.args.self.now c.args.i c.at.result item }

pub loop-index-preserved : goal.loop-index-preserved
loop-index-preserved c =
    let parts = c.self.inside.parts.entries in
    let own = c.self.inside.own.entries in
    let index = c.loop-index.index in
    let left = c.loop-index.left in
    let rest = pairs_of (drop (index + 1) parts) ++ own in
    elim c.match-get_index.branch [
      | in-Some+else-left-len w ↦
          let images = w.in-Some.part.now in
          let here = parts_here parts own index w.in-Some.field-0-0.now images (sym w.in-Some.ensures.entry) in
          let behind : left ≡ length images + c.match-get_index.left =
          let long = ap length w.get-part.ensures in omega (arith, long, w.len-len.ensures.len, w.if-left-len.false, w.left-is) in
          sym (get_behind images rest c.match-get_index.left left behind) ∙ ap (λ (es : List (QName × Image)). slice_get es left) (sym here) ∙ c.loop-index.invariant
      | in_default w ↦
          let past = nothing_behind parts index (sym w.in_default.ensures.entry) in
          absurd (omega (arith, past, c.len-index-end.ensures.len, c.loop-index-test.true))
    ]

pub returns : goal.returns
returns c =
    let parts = c.self.inside.parts.entries in
    let own = c.self.inside.own.entries in
    let left = c.loop-index.left in
    let past : length parts ≤ c.loop-index.index = omega (arith, c.len-index-end.ensures.len, c.loop-index-test.false) in
    let item = c.get_index-2.ensures.entry ∙ sym (ap (λ (p : Parts). slice_get (pairs_of p ++ own) left) (drop_all c.loop-index.index parts past))
    ∙ c.loop-index.invariant ∙ ap (λ (es : List (QName × Image)). slice_get es c.args.i) c.self.view_is in
    record { item = item; none = none_at c.args.self.now c.args.i c.get_index-2.result item; meaning = mapping_at c.args.self.now c.args.i c.get_index-2.result item }

pub loop-index-init : goal.loop-index-init
loop-index-init c = refl
