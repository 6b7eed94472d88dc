use Rattle.std.proofs.Common.{◌≡◌, ◌≤◌, ◌+◌, suc, ◌++◌, take, length, Some, refl, sym, ap, ◌∙◌, arith}
use Rattle.std.specs.Prelude.{slice_get}
use Rattle.std.proofs.lemmas.List.{length-map, take_all, append-nil}
use Rattle.std.proofs.Math.Seq.{take-length}
use Rattle.term_trees.specs.Readings.{read_declaration, read_map, read_signature}
use Rattle.struct_flatten.specs.Steps.{induced_into}
use Rattle.struct_flatten.proofs.Adding.{front_of_front, once_so_far, one_more}
use Rattle.struct_flatten.proofs.induced.add_all.Goals as goal
use Rattle.struct_flatten.proofs.induced.add_all.Goals.{in-Some+in_ok-add_one, in_default}

pub loop-index-init : goal.loop-index-init
loop-index-init c = (sym (append-nil (read_signature c.args.own.now)), take-length c.args.own.now)

pub returns-in_err-add_one-clause-front : goal.returns-in_err-add_one-clause-front
returns-in_err-add_one-clause-front c = front_of_front c.args.own.now c.loop-index.own _ c.loop-index.invariant.1 c.add_one.ensures.front

pub loop-index-preserved : goal.loop-index-preserved
loop-index-preserved c =
    let declarations = read_signature c.args.declarations.now in
    let here = c.args.here.now in
    let structure = c.args.face.now.name in
    let along = read_map c.args.face.now.map in
    let i = c.loop-index.index in
    let plus : suc i ≡ i + 1 = omega arith in
    elim c.match-at.branch [
      | in-Some+in_ok-add_one w ↦
          let d = read_declaration w.in-Some.decl.now in
          let there : slice_get declarations i ≡ Some d = sym w.in-Some.ensures.meaning in
          rw w.own-is (
            one_more here structure along (read_signature c.args.own.now) (read_signature c.loop-index.own) (read_signature w.add_one.new.own) declarations i d there c.loop-index.invariant.0 w.in_ok-add_one.ensures.ok
                ∙ ap (λ j. read_signature c.args.own.now ++ induced_into here structure along (take j declarations)) plus,
            front_of_front c.args.own.now c.loop-index.own w.add_one.new.own c.loop-index.invariant.1 w.add_one.ensures.front,
          )
      | in_default w ↦ absurd (omega (arith, w.in_default.ensures.none.0 refl))
    ]

pub returns-clause-ok : goal.returns-clause-ok
returns-clause-ok c =
    let declarations = read_signature c.args.declarations.now in
    let past : length declarations ≤ c.loop-index.index = omega (arith, length-map c.args.declarations.now read_declaration, c.len-index-end.ensures.len) in
    c.loop-index.invariant.0 ∙ ap (λ ds. read_signature c.args.own.now ++ induced_into c.args.here.now c.args.face.now.name (read_map c.args.face.now.map) ds) (take_all c.loop-index.index declarations past)

pub add_one-requires : goal.add_one-requires
add_one-requires c =
    once_so_far c.args.here.now c.args.face.now.name (read_map c.args.face.now.map) (read_signature c.args.own.now) (read_signature c.loop-index.own) (read_signature c.args.declarations.now) c.loop-index.index (read_declaration c.in-Some.decl.now)
    (sym c.in-Some.ensures.meaning) c.loop-index.invariant.0 c.requires
