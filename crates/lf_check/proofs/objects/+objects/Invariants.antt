use Rattle.std.proofs.Common.{◌≡◌, Ok, drop}
use Rattle.lf_meaning.specs.Terms.{apply_all}
use Rattle.lf_meaning.specs.Faults.{synthesised}
use Rattle.lf_meaning.specs.SpineSynthesis.{arguments_answer}
use Rattle.term_trees.specs.Readings.{read_head, read_family, read_objects}
use Rattle.lf_check.specs.Environments.{context_over, signature_over}
use Rattle.lf_check.proofs.objects.+objects.Given as goal

-- What the classifier so far gives with the arguments that are left is what the head gives with all of them.
abbrev pub invariant-synthesise-loop-i : goal.invariant-synthesise-loop-i
invariant-synthesise-loop-i l =
    synthesised (signature_over l.environment) (context_over l.environment) (apply_all (read_head l.head) (read_objects l.spine))
    ≡ arguments_answer (signature_over l.environment) (context_over l.environment) (Ok (read_family l.classifier.value)) l.i (read_objects (drop l.i l.spine))
