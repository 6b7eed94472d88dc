use Rattle.std.proofs.Common.{Ok}
use Rattle.std.proofs.lemmas.Result.{err_from_is_err_and}
use Rattle.lf_meaning.specs.Terms.{family_apply_all, FamilyCon}
use Rattle.lf_meaning.specs.Faults.{synthesised_kind}
use Rattle.term_trees.specs.Readings.{read_constant, read_kind, read_objects}
use Rattle.lf_check.specs.Environments.{context_over, signature_over}
use Rattle.lf_check.proofs.Arguments.{family_spine_begins, family_head_stops, family_argument_stops}
use Rattle.lf_check.proofs.families.synthesise_kind.Goals as goal

pub returns-in_err-kind : goal.returns-in_err-kind
returns-in_err-kind c =
    let environment = c.args.environment.now in
    let p = err_from_is_err_and c.from_residual.result c.from_residual.ensures.1 in
    rw (p.1, p.2) (family_head_stops (signature_over environment) (context_over environment) (read_constant c.args.head.now) (read_objects c.args.spine.now) c.in_err-kind.field-0.0 c.in_err-kind.ensures)

pub loop-i-init : goal.loop-i-init
loop-i-init c =
    let environment = c.args.environment.now in
    family_spine_begins (signature_over environment) (context_over environment) (read_constant c.args.head.now) (read_objects c.args.spine.now) (Ok (read_kind c.in_ok-kind.kind.value)) c.in_ok-kind.ensures

pub returns-in_err-kind-2 : goal.returns-in_err-kind-2
returns-in_err-kind-2 c =
    let environment = c.args.environment.now in
    let p = err_from_is_err_and c.from_residual-in_err-kind-2.result c.from_residual-in_err-kind-2.ensures.1 in
    let whole = synthesised_kind (signature_over environment) (context_over environment) (family_apply_all (FamilyCon (read_constant c.args.head.now)) (read_objects c.args.spine.now)) in
    rw (p.1, p.2) (family_argument_stops (signature_over environment) (context_over environment) whole c.loop-i.kind.value c.deref.result.now c.loop-i.i c.args.spine.now c.index-spine-i.result c.in_err-kind-2.field-0.0 c.loop-i-test.true c.index-spine-i.is c.deref.ensures c.loop-i.invariant c.in_err-kind-2.ensures)
