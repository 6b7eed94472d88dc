use Rattle.worker_crew.specs.TakenIn.{TakesIn}
use Rattle.worker_crew.proofs.dismissal.dismiss.Given as goal

abbrev pub invariant-loop-worker : goal.invariant-loop-worker
invariant-loop-worker g l = TakesIn g.S.Subject.subject.dependencies l.initial.first l.yielded l.first
