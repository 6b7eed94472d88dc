use borrow.Author.Count.{below_more}
use Rattle.verdict_board.specs.Readiness.{IsUnreadyAt}
use Rattle.verdict_board.proofs.Parking.{none_ready_before}
use Rattle.verdict_board.proofs.candidates.may_be_ready.Goals as goal

pub loop-place-init : goal.loop-place-init
loop-place-init g c graph kept = none_ready_before c.args.stages.now graph (λ list. list.items) c.args.candidates.now.candidate c.args.candidates.now.parked.items kept c.begin-place.result c.begin-place.ensures

pub loop-place-preserved : goal.loop-place-preserved
loop-place-preserved g c graph kept =
    below_more (IsUnreadyAt c.args.stages.now graph) c.loop-place.place (c.loop-place.invariant graph kept) (c.may_be_ready.ensures c.if-may_be_ready.false graph kept)
