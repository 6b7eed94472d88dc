use Rattle.std.proofs.Common.{◌≡◌, Ok, drop}
use Rattle.lf_meaning.specs.Terms.{family_apply_all, FamilyCon}
use Rattle.lf_meaning.specs.Faults.{synthesised_kind}
use Rattle.lf_meaning.specs.SpineSynthesis.{family_arguments_answer}
use Rattle.term_trees.specs.Readings.{read_constant, read_kind, read_objects}
use Rattle.lf_check.specs.Environments.{context_over, signature_over}
use Rattle.lf_check.proofs.families.synthesise_kind.Given as goal

-- What the kind so far gives with the arguments that are left is what the constant gives with all of them.
abbrev pub invariant-loop-i : goal.invariant-loop-i
invariant-loop-i l =
    synthesised_kind (signature_over l.environment) (context_over l.environment) (family_apply_all (FamilyCon (read_constant l.head)) (read_objects l.spine))
    ≡ family_arguments_answer (signature_over l.environment) (context_over l.environment) (Ok (read_kind l.kind.value)) l.i (read_objects (drop l.i l.spine))
