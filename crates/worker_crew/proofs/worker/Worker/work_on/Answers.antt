use Rattle.std.proofs.Common.{subst}
use Rattle.worker_crew.specs.Worked.{HasWorked}
use Rattle.worker_crew.proofs.Worked.{worked_so}
use Rattle.worker_crew.proofs.worker.Worker.work_on.Goals as goal

pub returns : goal.returns
returns g c =
    let w = c.work-self-inside in
    subst (λ z. HasWorked g.S.Subject.subject z (record { pass = w.new.pass; outcome = w.result })) c.self.view_is
    (worked_so g.S.Subject.subject (record { pass = c.self.inside.pass; outcome = c.self.inside.outcome }) w.result w.new.pass c.new-steps.result w.new.steps w.ensures.keeps w.ensures.done w.ensures.stopped)
