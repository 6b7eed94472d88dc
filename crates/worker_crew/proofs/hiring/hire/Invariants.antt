use Rattle.std.proofs.Common.{◌≡◌}
use Rattle.worker_crew.specs.Hired.{hired, with_more}
use Rattle.worker_crew.proofs.hiring.hire.Given as goal

abbrev pub invariant-loop : goal.invariant-loop
invariant-loop g l =
    (l.crew.items ≡ hired l.initial.first l.counter)
    × (l.first ≡ with_more l.initial.first l.counter)
    × (l.crew.len ≡ l.counter)
    × (l.crew.cap ≡ l.initial.workers)
