use Rattle.std.proofs.Common.{◌-◌, length}
use Rattle.edit_log_meaning.specs.Log.{version_of}
use Rattle.saved_log.specs.Standing.{IsNear, Reached}
use Rattle.saved_log.proofs.edits.read_edits.Given as goal

abbrev pub invariant-loop-gate : goal.invariant-loop-gate
invariant-loop-gate l = record {
  reached : Reached l.bytes l.log l.gate;
  near : IsNear l.gate (version_of l.log);
}

abbrev pub decreases-loop-gate : goal.decreases-loop-gate
decreases-loop-gate l = length l.bytes - l.gate
