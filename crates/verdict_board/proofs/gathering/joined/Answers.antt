use Rattle.std.proofs.Common.{◌≡◌, ◌+◌, ◌≤◌, suc, length, slice_get, Some, sym, ap, ◌∙◌, subst, arith}
use Rattle.std.proofs.lemmas.Bool.{ltb-true}
use Rattle.std.proofs.lemmas.Option.{slice_get-get_or}
use Rattle.module_graph.specs.ReachParts.{IsJoin}
use Rattle.verdict_board.proofs.Joins.{ok_same, joining_next, joining_done, joining_none}
use Rattle.verdict_board.proofs.gathering.joined.Goals as goal

pub loop-next-preserved : goal.loop-next-preserved
loop-next-preserved c =
    let parts = c.loop-next.parts.items in
    let test = c.loop-next-test.true in
    let long = c.len.ensures in
    let one : c.loop-next.next + 1 ≡ suc c.loop-next.next = omega arith in
    let two : c.loop-next.next + 2 ≡ suc (suc c.loop-next.next) = omega arith in
    let at = slice_get-get_or parts c.loop-next.next c.index.result.now (omega (arith, test, long)) ∙ ap Some (sym c.index.ensures) in
    let then = slice_get-get_or parts (c.loop-next.next + 1) c.index-in-loop-next.result.now (omega (arith, test, long)) ∙ ap Some (sym c.index-in-loop-next.ensures) in
    rw (two, c.in_ok-push.ensures.items)
    (joining_next c.args.lists.items c.loop-next.next parts c.loop-next.invariant c.index.result.now c.index-in-loop-next.result.now c.in_ok-both.both at (subst (λ i. slice_get parts i ≡ Some c.index-in-loop-next.result.now) one then) c.in_ok-both.ensures)

pub returns-in-Some : goal.returns-in-Some
returns-in-Some c =
    let past = c.loop-next-test.false in
    let long = c.len.ensures in
    let within = ltb-true c.loop-next.next (length c.deref.result.now) (sym c.in-Some.ensures.lookup.0) in
    let at : slice_get c.loop-next.parts.items c.loop-next.next ≡ Some c.in-Some.names.now =
    ap (λ z. slice_get z c.loop-next.next) (sym c.deref.ensures.value) ∙ slice_get-get_or c.deref.result.now c.loop-next.next c.in-Some.names.now within ∙ ap Some (sym c.in-Some.ensures.lookup.1) in
    ok_same (IsJoin c.args.lists.items) c.share.result c.in-Some.names.now c.share.ensures
    (joining_done c.args.lists.items c.loop-next.next c.loop-next.parts.items c.loop-next.invariant c.in-Some.names.now (omega (arith, past, long)) at)

pub returns : goal.returns
returns c =
    let past : length c.loop-next.parts.items ≤ c.loop-next.next = subst (λ z. length z ≤ c.loop-next.next) c.deref.ensures.value c.in-None.ensures.lookup.3 in
    ok_same (IsJoin c.args.lists.items) c.new-in-None.result c.from_vec.result c.new-in-None.ensures
    (rw (c.from_vec.ensures, c.new.ensures.items) (joining_none c.args.lists.items c.loop-next.next c.loop-next.parts.items c.loop-next.invariant past))
