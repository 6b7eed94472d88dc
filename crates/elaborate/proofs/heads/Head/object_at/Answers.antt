use Rattle.std.proofs.Common.{ap, sym, ◌∙◌}
use Rattle.lf_meaning.specs.Equality.{same_family}
use Rattle.term_trees.specs.Readings.{read_family}
use Rattle.mmt_syntax.specs.Readings.{read_span}
use Rattle.elaborate.proofs.OutcomesStand.{object_stands}
use Rattle.elaborate.proofs.heads.Head.object_at.Goals as goal

pub returns-in_ok-long_object-in-Family : goal.returns-in_ok-long_object-in-Family
returns-in_ok-long_object-in-Family c head stands =
    let t = c.args.family.now in
    let same = ap (λ a. same_family (read_family a) (read_family t)) (sym c.get.ensures) ∙ sym c.same_fam.ensures ∙ c.if-same_fam.true in
    let outcome = c.in_ok-outcome-in-Family in
    let long = c.in_ok-long_object-in-Family in
    object_stands (read_span c.args.span) c.args.self c.in-Family.found t outcome.outcome long.field-0 head c.in-Family.is same stands outcome.ensures long.ensures
