use Rattle.std.proofs.Common.{arith}
use Rattle.std.proofs.lemmas.List.Elements.{All-same}
use Rattle.worker_crew.specs.Hired.{hired}
use Rattle.worker_crew.specs.Workers.{IsWorker}
use Rattle.worker_crew.proofs.Hired.{one_more_made, one_more_hired, are_workers, are_all_others}
use Rattle.worker_crew.proofs.hiring.hire.Goals as goal

pub loop-preserved : goal.loop-preserved
loop-preserved g c =
    let h = c.loop.invariant in
    let next = c.in_ok-split.ensures.next in
    let pushed = c.push_reserved.ensures in (
      one_more_hired c.args.first.now c.loop.counter c.loop.first h.1 c.loop.crew.items c.push_reserved.new.self.items c.in_ok-split.field-0 c.new.result h.0 next.next c.new.ensures pushed.items,
      one_more_made c.args.first.now c.loop.counter c.loop.first h.1 c.split.new.first next.first,
      (let len = pushed.len in let so_far = h.2 in omega (arith, len, so_far)),
      (let capacity = pushed.capacity in let so_far = h.3 in omega (arith, capacity, so_far)),
    )

pub returns-clause-workers : goal.returns-clause-workers
returns-clause-workers g c =
    All-same (IsWorker g.S.Subject.subject.dependencies c.args.board.now) c.loop.crew.items (hired c.args.first.now c.loop.counter) c.loop.invariant.0
    (are_workers c.args.first.now g.S.Subject.subject.dependencies c.args.board.now c.loop.counter c.requires.first.0 c.requires.made c.requires.legal)

pub returns-clause-all : goal.returns-clause-all
returns-clause-all g c all = are_all_others c.args.first.now c.loop.counter c.loop.first c.loop.crew.items all c.loop.invariant.1 c.loop.invariant.0
