use Rattle.names.proofs.Variables.{IsLeft}
use Rattle.names.proofs.bound.innermost.Given as goal

abbrev pub invariant-loop-left : goal.invariant-loop-left
invariant-loop-left l = IsLeft l.variables l.name l.left

abbrev pub decreases-loop-left : goal.decreases-loop-left
decreases-loop-left l = l.left
