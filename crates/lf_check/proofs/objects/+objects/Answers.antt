use Rattle.std.proofs.Common.{Ok, Some, refl, ap, ◌∙◌}
use Rattle.std.proofs.lemmas.Result.{err_from_is_err_and}
use Rattle.lf_meaning.specs.Terms.{apply_all, family_apply_all, FamilyCon}
use Rattle.lf_meaning.specs.Faults.{synthesised, object_fault, here, NotAFunction}
use Rattle.term_trees.specs.Readings.{read_constant, read_head, read_family, read_object, read_objects, read_arguments}
use Rattle.term_trees.proofs.ReadingEquations.{read_family_at}
use Rattle.lf_check.specs.Stops.{Stops}
use Rattle.lf_check.specs.Environments.{context_over, signature_over}
use Rattle.lf_check.proofs.Arguments.{no_function, spine_begins, head_stops, argument_stops}
use Rattle.lf_check.proofs.objects.+objects.Goals as goal

pub synthesise-returns-in_err-classifier : goal.synthesise-returns-in_err-classifier
synthesise-returns-in_err-classifier t c =
    let environment = c.args.environment.now in
    let p = err_from_is_err_and c.from_residual.result c.from_residual.ensures.1 in
    rw (p.1, p.2) (head_stops (signature_over environment) (context_over environment) c.args.head.now (read_objects c.args.spine.now) c.in_err-classifier.field-0.0 c.in_err-classifier.ensures)

pub synthesise-loop-i-init : goal.synthesise-loop-i-init
synthesise-loop-i-init t c =
    let environment = c.args.environment.now in
    spine_begins (signature_over environment) (context_over environment) c.args.head.now (read_objects c.args.spine.now) (Ok (read_family c.in_ok-classifier.classifier.value)) c.in_ok-classifier.ensures

pub synthesise-returns-in_err-classifier-2 : goal.synthesise-returns-in_err-classifier-2
synthesise-returns-in_err-classifier-2 t c =
    let environment = c.args.environment.now in
    let p = err_from_is_err_and c.from_residual-in_err-classifier-2.result c.from_residual-in_err-classifier-2.ensures.1 in
    let whole = synthesised (signature_over environment) (context_over environment) (apply_all (read_head c.args.head.now) (read_objects c.args.spine.now)) in
    rw (p.1, p.2) (argument_stops (signature_over environment) (context_over environment) whole c.loop-i.classifier.value c.deref.result.now c.loop-i.i c.args.spine.now c.index-spine-i.result c.in_err-classifier-2.field-0.0 c.loop-i-test.true c.index-spine-i.is c.deref.ensures c.loop-i.invariant c.in_err-classifier-2.ensures)

pub take_argument-returns-in-At : goal.take_argument-returns-in-At
take_argument-returns-in-At t c =
    let environment = c.args.environment.now in
    let at_itself : Stops c.here.result (Some (here NotAFunction)) = rw c.here.ensures refl in
    let is = ap read_family c.in-At.is ∙ read_family_at c.in-At.head c.in-At.spine in
    no_function c.inside-in-At.result (read_family c.args.classifier.now) (family_apply_all (FamilyCon (read_constant c.in-At.head)) (read_arguments c.in-At.spine)) c.args.step (read_object c.args.argument.now) (object_fault (signature_over environment) (context_over environment) (read_object c.args.argument.now)) is (c.inside-in-At.ensures (Some (here NotAFunction)) at_itself)
