use Rattle.std.proofs.Common.{◌-◌, length}
use Rattle.verdict_board.proofs.Joins.{IsJoining}
use Rattle.verdict_board.proofs.gathering.joined.Given as goal

abbrev pub invariant-loop-next : goal.invariant-loop-next
invariant-loop-next l = IsJoining l.fn.lists.items l.next l.parts.items

abbrev pub decreases-loop-next : goal.decreases-loop-next
decreases-loop-next l = length l.parts.items - l.next
