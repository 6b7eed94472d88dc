use Rattle.std.proofs.Common.{◌-◌, ◌<◌, length}
use Rattle.twelf_lexer.proofs.RowLoops.{PathSoFar}
use Rattle.twelf_lexer.proofs.path.path.Given as goal

abbrev pub invariant-loop-end : goal.invariant-loop-end
invariant-loop-end l = PathSoFar l.text l.at l.to l.end l.path.items × (0 < length l.path.items)

abbrev pub decreases-loop-end : goal.decreases-loop-end
decreases-loop-end l = l.to - l.end
