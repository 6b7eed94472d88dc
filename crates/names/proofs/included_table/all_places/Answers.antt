use Rattle.std.proofs.Common.{◌∙◌, sym, ap, take}
use Rattle.term_trees.specs.Readings.{read_signature}
use Rattle.mmt_interface.specs.Readings.{environment_of}
use Rattle.library_meaning.specs.Faces.{own_of}
use Rattle.names.specs.IncludedTables.{place_among, place_in, with_own}
use Rattle.names.proofs.IncludedPlaces.{among_more}
use Rattle.names.proofs.IncludedNames.{all_taken}
use Rattle.names.proofs.included_table.all_places.Goals as goal
use Rattle.names.proofs.included_table.all_places.Goals.{in-Some+in_ok-add_own, in_default}

pub loop-place-init : goal.loop-place-init
loop-place-init c = λ path. ap (λ ps. place_in ps path) c.new-places.ensures.empty

pub loop-place-preserved : goal.loop-place-preserved
loop-place-preserved c =
    let theories = c.args.theories.now in
    let environment = environment_of c.args.faces.now in
    let i = c.loop-place.place in
    let theory = c.index-theories-place.result in
    elim c.match-theory.branch [
      | in-Some+in_ok-add_own w ↦ λ path.
          let more = among_more environment path theories i theory c.loop-place-test.true c.index-theories-place.is in
          ap (λ ps. place_in ps.entries path) w.places-is ∙ w.in_ok-add_own.ensures path ∙ ap (λ known. with_own i path known (read_signature w.in-Some.face.now.own)) (c.loop-place.invariant path)
          ∙ ap (with_own i path (place_among environment path (take i theories))) (ap own_of w.in-Some.ensures.meaning) ∙ sym more
      | in_default w ↦ λ path.
          let more = among_more environment path theories i theory c.loop-place-test.true c.index-theories-place.is in
          ap (λ ps. place_in ps.entries path) w.places-is ∙ c.loop-place.invariant path
          ∙ ap (with_own i path (place_among environment path (take i theories))) (ap own_of w.in_default.ensures.meaning) ∙ sym more
    ]

pub returns : goal.returns
returns c = λ path.
    c.loop-place.invariant path ∙ ap (place_among (environment_of c.args.faces.now) path) (all_taken c.args.theories.now c.loop-place.place c.loop-place-test.false c.loop-place.auto.place-end)
