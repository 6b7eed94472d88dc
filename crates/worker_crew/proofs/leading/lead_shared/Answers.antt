use Rattle.std.proofs.Common.{ap, ◌∙◌, sym, subst}
use Rattle.worker_crew.specs.Leading.{WasLed}
use Rattle.worker_crew.proofs.Beside.{was_led}
use Rattle.worker_crew.proofs.leading.lead_shared.Goals as goal

pub returns-clause-led : goal.returns-clause-led
returns-clause-led g c =
    let dependencies = g.S.Subject.subject.dependencies in
    let leads = g.F.Front.leads c.args.front.now c.lead_beside-end.result c.args.input.now c.lead_beside-end.new.input c.args.output.now c.lead_beside-end.new.output in
    let number = ap (λ p. p.number) c.in-Ok.ensures.first ∙ ap (λ p. p.number) c.requires.first in
    let led = was_led dependencies leads c.hire.new.first c.lead_beside-end.new.first c.dismiss.new.first c.lead_beside-end.new.crew number c.lead_beside-end.ensures.led c.dismiss.ensures.takes_in c.dismiss.ensures.log in
    subst (WasLed dependencies leads) (sym c.end-2.ensures.seen) led
