use Rattle.std.proofs.Common.{◌≡◌, ◌+◌, ◌-◌, [], length, subst, arith, rules}
use Rattle.module_graph.proofs.Peeled.{all_told, ready_as, places_next, places_end}
use Rattle.module_graph.specs.PeelingState.{IsState, places}
use Rattle.module_graph.proofs.grounding.peel.Goals as goal

pub look-requires : goal.look-requires
look-requires c =
    let count = c.len-place-end.ensures.len in
    let test = c.loop-place-test.true in (
      places (c.loop-place.place + 1) (length c.args.graph.now - (c.loop-place.place + 1)),
      subst (IsState c.args.graph.now c.loop-place.peeling) (places_next c.loop-place.place (length c.args.graph.now) (omega (arith, count, test))) c.loop-place.invariant,
    )

pub loop-place-preserved : goal.loop-place-preserved
loop-place-preserved c =
    let count = c.len-place-end.ensures.len in
    let test = c.loop-place-test.true in
    c.in_ok-look.ensures.state (places (c.loop-place.place + 1) (length c.args.graph.now - (c.loop-place.place + 1)))
    (subst (IsState c.args.graph.now c.loop-place.peeling) (places_next c.loop-place.place (length c.args.graph.now) (omega (arith, count, test))) c.loop-place.invariant)

pub loop-place-2-init : goal.loop-place-2-init
loop-place-2-init c =
    let count = c.len-place-end.ensures.len in
    let test = c.loop-place-test.false in
    subst (IsState c.args.graph.now c.loop-place.peeling) (places_end c.loop-place.place (length c.args.graph.now) (omega (arith, count, test))) c.loop-place.invariant

pub returns : goal.returns
returns c =
    let none : c.loop-place-2.peeling.ready.items ≡ [] = search rules in
    all_told (λ list. list.items) c.args.graph.now _ _ _ (ready_as (λ list. list.items) c.args.graph.now _ _ _ _ [] [] none c.loop-place-2.invariant)
