use Rattle.std.proofs.Common.{◌∙◌, refl, sym, ap}
use Rattle.std.specs.Prelude.{option_to_list}
use Rattle.library_meaning.specs.Faces.{own_part}
use Rattle.library_meaning.specs.Resolution.{own_at, the_only}
use Rattle.mmt_interface.specs.Readings.{environment_of}
use Rattle.names.proofs.Included.{read_found, none_more, first_met, second_met, all_met}
use Rattle.names.proofs.constants.included_constant.Goals as goal
use Rattle.names.proofs.constants.included_constant.Goals.{in-Some+else-is_some, in_default}

pub loop-theory-init : goal.loop-theory-init
loop-theory-init c = refl

pub returns-then-is_some : goal.returns-then-is_some
returns-then-is_some c =
    let environment = environment_of c.args.scope.now.faces.now in
    let path = c.as_slice.result.now in
    let theories = c.as_slice-theory-items.result.now in
    rw (← c.as_slice-theory-items.ensures) (sym (second_met environment c.args.written.now theories c.loop-theory.theory-index c.theory-item.result c.loop-theory.found c.in-Some.decl c.loop-theory-test.true c.theory-item.is (rw (← c.as_slice.ensures.names) c.in-Some.ensures) (sym c.is_some.ensures ∙ c.if-is_some.true) c.loop-theory.invariant))

pub loop-theory-preserved : goal.loop-theory-preserved
loop-theory-preserved c =
    let environment = environment_of c.args.scope.now.faces.now in
    let theories = c.as_slice-theory-items.result.now in
    let theory = c.theory-item.result in
    let count = c.loop-theory.theory-index in
    let met = c.loop-theory.invariant in
    elim c.match-constant_of.branch [
      | in-Some+else-is_some w ↦
          let one = w.in-Some.ensures ∙ ap (own_at (own_part environment theory)) c.as_slice.ensures.names in
          rw w.found-is (first_met environment c.args.written.now theories count theory c.loop-theory.found w.in-Some.decl c.loop-theory-test.true c.theory-item.is one (sym w.is_some.ensures ∙ w.if-is_some.false) met)
      | in_default w ↦
          let none = w.in_default.ensures ∙ ap (own_at (own_part environment theory)) c.as_slice.ensures.names in
          rw w.found-is (none_more environment c.args.written.now theories count theory c.loop-theory.found c.loop-theory-test.true c.theory-item.is none met)
    ]

pub returns-in-Some-found : goal.returns-in-Some-found
returns-in-Some-found c =
    let environment = environment_of c.args.scope.now.faces.now in
    let theories = c.as_slice-theory-items.result.now in
    let all = all_met environment c.args.written.now theories c.loop-theory.theory-index c.loop-theory.found c.loop-theory-test.false c.loop-theory.auto.theory-index-end c.loop-theory.invariant in
    rw (← c.as_slice-theory-items.ensures) (sym (ap the_only (all ∙ ap (λ found. option_to_list (read_found found)) c.in-Some-found.is)))

pub returns-in-None : goal.returns-in-None
returns-in-None c =
    let environment = environment_of c.args.scope.now.faces.now in
    let theories = c.as_slice-theory-items.result.now in
    let all = all_met environment c.args.written.now theories c.loop-theory.theory-index c.loop-theory.found c.loop-theory-test.false c.loop-theory.auto.theory-index-end c.loop-theory.invariant in
    rw (← c.as_slice-theory-items.ensures) (sym (ap the_only (all ∙ ap (λ found. option_to_list (read_found found)) c.in-None.is)))
