use Rattle.std.proofs.Common.{Some, refl, ap, ◌∙◌}
use Rattle.lf_meaning.specs.Faults.{object_fault, here, NotAFunction}
use Rattle.term_trees.specs.Readings.{read_object, read_kind}
use Rattle.term_trees.proofs.ReadingEquations.{read_kind_ty}
use Rattle.lf_check.specs.Environments.{context_over, signature_over}
use Rattle.lf_check.specs.Stops.{Stops}
use Rattle.lf_check.proofs.Arguments.{no_kind_function}
use Rattle.lf_check.proofs.families.take_argument.Goals as goal

pub returns-in-Ty : goal.returns-in-Ty
returns-in-Ty c =
    let environment = c.args.environment.now in
    let at_itself : Stops c.here.result (Some (here NotAFunction)) = rw c.here.ensures refl in
    no_kind_function c.inside-in-Ty.result (read_kind c.args.kind.now) c.args.step (read_object c.args.argument.now) (object_fault (signature_over environment) (context_over environment) (read_object c.args.argument.now)) (ap read_kind c.in-Ty.is ∙ read_kind_ty) (c.inside-in-Ty.ensures (Some (here NotAFunction)) at_itself)
