use Rattle.std.proofs.Common.{◌≡◌, take}
use Rattle.module_check.specs.PresentRows.{present_rows}
use Rattle.module_check.proofs.answered.faces_of.Given as goal

abbrev pub invariant-loop-place : goal.invariant-loop-place
invariant-loop-place l = l.faces ≡ present_rows (take l.place l.answers)
