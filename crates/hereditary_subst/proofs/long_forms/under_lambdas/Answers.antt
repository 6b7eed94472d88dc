use Rattle.std.proofs.Common.{ap, ◌∙◌}
use Rattle.lf_meaning.specs.Terms.{Lam}
use Rattle.term_trees.specs.Readings.{read_object}
use Rattle.term_trees.proofs.ReadingEquations.{read_object_lam}
use Rattle.hereditary_subst.proofs.LongForms.{one_lambda_more}
use Rattle.hereditary_subst.proofs.long_forms.under_lambdas.Goals as goal

pub loop-preserved : goal.loop-preserved
loop-preserved c =
    read_object_lam c.in_ok-new.field-0
    ∙ ap Lam (ap read_object c.in_ok-new.ensures.ok ∙ c.loop.invariant)
    ∙ one_lambda_more c.loop.counter (read_object c.args.body)
