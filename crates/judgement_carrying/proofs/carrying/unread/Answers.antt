use Rattle.std.proofs.Common.{ap, sym, subst}
use Rattle.judged_meaning.specs.Carrying.{carried_text}
use Rattle.mmt_interface.specs.Carriages.{IsCarryFault}
use Rattle.twelf_expressions.specs.Going.{Fails}
use Rattle.judgement_carrying.proofs.carrying.unread.Goals as goal

pub returns-in-Syntax : goal.returns-in-Syntax
returns-in-Syntax c = λ environment view answer h.
    (let fails = subst (λ f. Fails f answer) c.in-Syntax.is h in subst (IsCarryFault c.ill_at.result) (sym (ap (carried_text environment view) fails)) c.ill_at.ensures)

pub returns-in-TooDeep : goal.returns-in-TooDeep
returns-in-TooDeep c = λ environment view answer h.
    (let fails = subst (λ f. Fails f answer) c.in-TooDeep.is h in
    subst (IsCarryFault c.ill_at-in-TooDeep.result) (sym (ap (carried_text environment view) fails)) c.ill_at-in-TooDeep.ensures)

pub returns-in-Unsupported : goal.returns-in-Unsupported
returns-in-Unsupported c = λ environment view answer h.
    (let fails = subst (λ f. Fails f answer) c.in-Unsupported.is h in
    subst (IsCarryFault c.ill_at-in-Unsupported.result) (sym (ap (carried_text environment view) fails)) c.ill_at-in-Unsupported.ensures)
