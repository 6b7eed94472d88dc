use Rattle.std.proofs.Common.{length, ◌-◌}
use Rattle.twelf_lexer.proofs.CommentSteps.{InnerTo}
use Rattle.twelf_lexer.proofs.comment.comment_end.Given as goal

abbrev pub invariant-loop-to : goal.invariant-loop-to
invariant-loop-to l = InnerTo l.text l.at l.to l.inner

abbrev pub decreases-loop-to : goal.decreases-loop-to
decreases-loop-to l = length l.text - l.to
