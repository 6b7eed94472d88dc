use Rattle.std.specs.Prelude.{IfOk}
use Rattle.std.proofs.Common.{◌≡◌, sym, subst}
use Rattle.printing_meaning.specs.CarriedLines.{carried_line}
use Rattle.judged_meaning.specs.JudgingByRules.{printed_carriage}
use Rattle.mmt_interface.specs.Carriages.{IsCarryFault}
use Rattle.report_text.proofs.carried.not_carried.Goals as goal

pub returns-in-NoView : goal.returns-in-NoView
returns-in-NoView c codomain carriage comes =
    let is = subst (λ fault. IsCarryFault fault carriage) c.in-NoView.is comes in
    subst (λ z. IfOk c.no_view_line.result (λ line. line ≡ carried_line c.args.view.now c.args.version codomain (printed_carriage z))) (sym is) (c.no_view_line.ensures codomain)

pub returns-in-Ill : goal.returns-in-Ill
returns-in-Ill c codomain carriage comes =
    let is = subst (λ fault. IsCarryFault fault carriage) c.in-Ill.is comes in
    subst (λ z. IfOk c.ill_line.result (λ line. line ≡ carried_line c.args.view.now c.args.version codomain (printed_carriage z))) (sym is) (c.ill_line.ensures codomain)
