use Rattle.std.proofs.Common.{◌≡◌, ◌∙◌, suc, ◌+◌, Some, [], ◌∷◌, ◌++◌, length, take, refl, sym, ap, arith}
use Rattle.std.specs.Prelude.{slice_get}
use Rattle.std.specs.Option.{option_map}
use Rattle.std.proofs.lemmas.List.{length-map}
use Rattle.std.proofs.lemmas.Option.{slice_get-map}
use Rattle.list_laws.proofs.Places.{take_more, take_length}
use Rattle.library_meaning.specs.Words.{identity_map, identity_mapping}
use Rattle.term_trees.specs.Readings.{read_declaration, read_map, read_signature}
use Rattle.lf_terms.proofs.flat_sig.FlatSig.identity_part.Goals as goal
use Rattle.lf_terms.proofs.flat_sig.FlatSig.identity_part.Goals.{in-Some-at+in_ok-added+else-not-added, in_default-at}

pub loop-i-init : goal.loop-i-init
loop-i-init c = ap read_map c.in_ok-part.ensures

pub loop-i-preserved : goal.loop-i-preserved
loop-i-preserved c =
    let decls = read_signature c.args.self.now in
    let all = identity_map decls in
    let i = c.loop-i.i in
    let plus : suc i ≡ i + 1 = omega arith in
    elim c.match-at-2.branch [
      | in-Some-at+in_ok-added+else-not-added w ↦
          let mapping = identity_mapping (read_declaration w.in-Some-at.decl.now) in
          let there : slice_get all i ≡ Some mapping = slice_get-map identity_mapping decls i ∙ ap (option_map identity_mapping) (sym w.in-Some-at.ensures.meaning) in
          ap read_map w.part-is ∙ w.in_ok-added.ensures w.if-not-added.false ∙ ap (λ z. z ++ mapping ∷ []) c.loop-i.invariant
          ∙ sym (take_more all i mapping there) ∙ ap (λ j. take j all) plus
      | in_default-at w ↦ absurd (omega (arith, c.len-i-end.ensures.len, w.in_default-at.ensures.none.0 refl, c.loop-i-test.true))
    ]

pub returns : goal.returns
returns c =
    let decls = read_signature c.args.self.now in
    let all = identity_map decls in
    let counted = length-map c.args.self.now read_declaration in
    let counted_all = length-map decls identity_mapping in
    let long = c.len-i-end.ensures.len in
    let within = c.loop-i.auto.i-end in
    let end : c.loop-i.i ≡ length all = omega (arith, counted, counted_all, long, within, c.loop-i-test.false) in
    ap read_map c.in_ok-new.ensures ∙ c.loop-i.invariant ∙ ap (λ n. take n all) end ∙ take_length all
