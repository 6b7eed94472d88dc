use Rattle.std.proofs.Common.{ap, ◌∙◌, arith}
use Rattle.indexmap.specs.IndexSet.{insert_all}
use Rattle.name_meaning.specs.Names.{same_name}
use Rattle.module_graph.proofs.Reached.{reaching_first, reaching_row, reaching_no_row, reaching_within, reaching_done}
use Rattle.module_graph.proofs.reaching.widen.Goals as goal

pub loop-next-init : goal.loop-next-init
loop-next-init c = reaching_first c.args.graph.now c.args.reached.now.keys c.requires

pub loop-next-smaller-in-Continue-1 : goal.loop-next-smaller-in-Continue-1
loop-next-smaller-in-Continue-1 c =
    let len = c.len.ensures.len in
    let test = c.loop-next-test.true in
    let within = reaching_within c.args.graph.now c.args.reached.now.keys c.loop-next.reached.keys c.loop-next.next c.loop-next.invariant (omega (arith, len, test)) in
    omega (arith, within)

pub loop-next-smaller : goal.loop-next-smaller
loop-next-smaller c =
    let len = c.len.ensures.len in
    let test = c.loop-next-test.true in
    let within = reaching_within c.args.graph.now c.args.reached.now.keys c.loop-next.reached.keys c.loop-next.next c.loop-next.invariant (omega (arith, len, test)) in
    omega (arith, within)

pub loop-next-preserved-in-Continue-1 : goal.loop-next-preserved-in-Continue-1
loop-next-preserved-in-Continue-1 c =
    reaching_row c.args.graph.now c.args.reached.now.keys c.loop-next.reached.keys c.loop-next.next c.in-Some.dependencies.now _ c.loop-next.invariant c.in-Some.ensures
    (c.in_ok-reach_all.ensures.added ∙ ap (insert_all same_name c.loop-next.reached.keys) c.as_slice.ensures) c.in_ok-reach_all.ensures.unique

pub loop-next-preserved : goal.loop-next-preserved
loop-next-preserved c =
    let len = c.len.ensures.len in
    let test = c.loop-next-test.true in
    reaching_no_row c.args.graph.now c.args.reached.now.keys c.loop-next.reached.keys c.loop-next.next c.loop-next.invariant (omega (arith, len, test)) c.in_default.ensures

pub returns-clause-reached : goal.returns-clause-reached
returns-clause-reached c =
    let len = c.len.ensures.len in
    let test = c.loop-next-test.false in
    reaching_done c.args.graph.now c.args.reached.now.keys c.loop-next.reached.keys c.loop-next.next c.loop-next.invariant (omega (arith, len, test))
