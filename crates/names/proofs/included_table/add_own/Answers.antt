use Rattle.std.proofs.Common.{◌≡◌, ◌∙◌, suc, ◌+◌, take, refl, sym, ap, arith}
use Rattle.std.proofs.lemmas.List.{length-map}
use Rattle.list_laws.proofs.Places.{take_more}
use Rattle.term_trees.specs.Readings.{read_declaration, read_signature}
use Rattle.names.specs.IncludedTables.{place_in, with_declaration}
use Rattle.names.proofs.IncludedPlaces.{with_all, all_more, all_none, all_own}
use Rattle.names.proofs.IncludedNames.{all_taken}
use Rattle.names.proofs.included_table.add_own.Goals as goal
use Rattle.names.proofs.included_table.add_own.Goals.{in-Some+in_ok-add_constant, in_default}

pub loop-index-init : goal.loop-index-init
loop-index-init c = λ path. sym (all_none c.args.place path (place_in c.args.places.now.entries path))

pub loop-index-preserved : goal.loop-index-preserved
loop-index-preserved c =
    let own = read_signature c.args.own.now in
    let i = c.loop-index.index in
    let place = c.args.place in
    let plus : suc i ≡ i + 1 = omega arith in
    elim c.match-at.branch [
      | in-Some+in_ok-add_constant w ↦ λ path.
          let d = read_declaration w.in-Some.decl.now in
          let before = place_in c.args.places.now.entries path in
          let more = take_more own i d (sym w.in-Some.ensures.meaning) in
          ap (λ ps. place_in ps.entries path) w.places-is ∙ w.in_ok-add_constant.ensures path ∙ ap (λ known. with_declaration place path known d) (c.loop-index.invariant path)
          ∙ sym (all_more place path before (take i own) d) ∙ ap (with_all place path before) (sym more ∙ ap (λ j. take j own) plus)
      | in_default w ↦ absurd (omega (arith, w.in_default.ensures.none.0 refl))
    ]

pub returns : goal.returns
returns c = λ path.
    let own = read_signature c.args.own.now in
    let counted = length-map c.args.own.now read_declaration in
    let long = c.len-index-end.ensures.len in
    let within = c.loop-index.auto.index-end in
    let past = c.loop-index-test.false in
    let before = place_in c.args.places.now.entries path in
    c.loop-index.invariant path ∙ ap (with_all c.args.place path before) (all_taken own c.loop-index.index (omega (arith, counted, long, past)) (omega (arith, counted, long, within)))
    ∙ all_own c.args.place path before own
