use Rattle.std.proofs.Common.{◌≡◌, ◌+◌, replicate, false, subst, sym, ap, ◌∙◌, arith, rules}
use Rattle.list_laws.proofs.Writes.{AreEmpty, none_empty, more_empty}
use Rattle.module_graph.proofs.Peeled.{first_state}
use Rattle.module_graph.proofs.grounding.Peeling.new.Goals as goal

pub loop-init : goal.loop-init
loop-init c = subst (λ lists. AreEmpty (λ list. list.items) lists 0) (sym c.new-waiting.ensures.items) (none_empty (λ list. list.items))

pub loop-preserved : goal.loop-preserved
loop-preserved c =
    subst (λ lists. AreEmpty (λ list. list.items) lists (c.loop.counter + 1)) (sym c.in_ok-push.ensures.items)
    (more_empty (λ list. list.items) c.loop.waiting.items c.loop.counter c.new.result c.loop.invariant c.new.ensures.items)

pub returns : goal.returns
returns c =
    let count = c.len-count.ensures.len in
    let past = c.loop-test.false in
    let long = c.loop.invariant.long in
    let auto = c.loop.auto in
    let none_taken : c.in_ok-vec.field-0.items ≡ replicate c.len-count.result false = search rules in
    let none_seen : c.in_ok-vec-2.field-0.items ≡ replicate c.len-count.result 0 = search rules in
    first_state (λ list. list.items) c.args.graph.now c.in_ok-vec.field-0.items c.loop.waiting.items c.in_ok-vec-2.field-0.items c.new-2.result.items
    c.len-count.ensures.ordered
    (none_taken ∙ ap (λ n. replicate n false) count) (omega (arith, count, past, long, auto)) c.loop.invariant.each
    (none_seen ∙ ap (λ n. replicate n 0) count) c.new-2.ensures.items
