use Rattle.std.proofs.Common.{sym, ◌∙◌}
use Rattle.lf_terms.proofs.FlatTables.{is_other, is_that}
use Rattle.lf_terms.proofs.flat_sig.leave.Goals as goal

pub returns-then-eq-clause-gone : goal.returns-then-eq-clause-gone
returns-then-eq-clause-gone c = λ first. c.swap_remove.ensures.updates.0

pub returns-then-eq-clause-stays : goal.returns-then-eq-clause-stays
returns-then-eq-clause-stays c = λ other. absurd (other (sym c.get.ensures.value ∙ sym c.copied.ensures ∙ is_that c.copied.result c.args.index (sym c.eq.ensures ∙ c.if-eq.true)))

pub returns-else-eq-clause-gone : goal.returns-else-eq-clause-gone
returns-else-eq-clause-gone c = λ first. absurd (is_other c.copied.result c.args.index (sym c.eq.ensures ∙ c.if-eq.false) (c.copied.ensures ∙ c.get.ensures.value ∙ first))
