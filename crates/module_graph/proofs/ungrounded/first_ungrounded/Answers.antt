use Rattle.std.proofs.Common.{◌<◌, length, [], ap, sym, arith}
use Rattle.module_graph_meaning.specs.Graphs.{is_graph_ungrounded}
use Rattle.module_graph.proofs.Firsts.{first_at, none_at}
use Rattle.module_graph.proofs.ungrounded.first_ungrounded.Goals as goal

pub returns-then-is_ungrounded : goal.returns-then-is_ungrounded
returns-then-is_ungrounded c =
    let list = c.as_slice-name-items.ensures in
    let within : c.loop-place.place < length c.args.deps.now = rw (← list) c.loop-place-test.true in
    first_at (is_graph_ungrounded c.args.graph.now) c.args.deps.now c.loop-place.place c.name-item.result within c.loop-place.invariant
    (rw (← list, ← c.name-item.is) (sym c.if-is_ungrounded.ensures))

pub returns : goal.returns
returns c =
    let all = ap length c.as_slice-name-items.ensures in
    let past = c.loop-place-test.false in
    none_at (is_graph_ungrounded c.args.graph.now) c.args.deps.now [] (λ k d low high. c.loop-place.invariant k d low (omega (arith, all, past, high)))
