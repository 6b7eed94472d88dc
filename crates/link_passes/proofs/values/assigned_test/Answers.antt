use Rattle.std.proofs.Common.{sym, ap₂}
use Rattle.elaborate_meaning.specs.Rules.{DefinitionClash}
use Rattle.link_meaning.specs.Assignments.{label_along}
use Rattle.link_meaning.specs.Refusals.{demand}
use Rattle.link_setting.specs.Readings.{read_setting}
use Rattle.link_setting.proofs.Chained.{same_answer}
use Rattle.link_passes.proofs.Spans.{span_is}
use Rattle.link_passes.proofs.values.assigned_test.Goals as goal

pub returns : goal.returns
returns c =
    let label = label_along (read_setting c.args.setting.now) c.args.target.now in
    same_answer (λ done. done) c.demand.result _ _ (ap₂ (λ b s. demand b s DefinitionClash label) (sym c.in_ok-holds.ensures) (span_is c.args.expr.now)) c.demand.ensures
