use Rattle.std.proofs.Common.{◌≡◌, take, drop}
use Rattle.lf_meaning.specs.Faults.{signature_fault, signature_fault_after}
use Rattle.term_trees.specs.Readings.{read_signature}
use Rattle.lf_check.proofs.signatures.check_sig.Given as goal

-- The declarations before the index have no fault.
abbrev pub invariant-loop-index : goal.invariant-loop-index
invariant-loop-index l =
    signature_fault (read_signature l.sig) ≡ signature_fault_after (read_signature (take l.index l.sig)) (read_signature (drop l.index l.sig))
