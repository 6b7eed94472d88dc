use Rattle.std.proofs.Common.{◌≡◌, ◌+◌, replicate, true, subst, sym, arith}
use Rattle.list_laws.proofs.Writes.{AreEmpty, none_empty, more_empty}
use Rattle.verdict_board.proofs.Parking.{all_new}
use Rattle.verdict_board.proofs.candidates.Candidates.new.Goals as goal

pub loop-init : goal.loop-init
loop-init c = subst (λ lists. AreEmpty (λ list. list.items) lists 0) (sym c.in_ok-parked.ensures.items) (none_empty (λ list. list.items))

pub loop-preserved : goal.loop-preserved
loop-preserved c =
    subst (λ lists. AreEmpty (λ list. list.items) lists (c.loop.counter + 1)) (sym c.in_ok-push.ensures.items)
    (more_empty (λ list. list.items) c.loop.parked.items c.loop.counter c.new.result c.loop.invariant c.new.ensures.items)

pub returns : goal.returns
returns c =
    let past = c.loop-test.false in
    let auto = c.loop.auto in
    let count : c.loop.counter ≡ c.args.count = omega (arith, past, auto) in
    let all : c.in_ok-all.field-0 ≡ replicate c.args.count true = c.in_ok-all.ensures in
    all_new (λ list. list.items) c.args.count c.in_ok-all.field-0 c.loop.parked.items all (subst (AreEmpty (λ list. list.items) c.loop.parked.items) count c.loop.invariant)
