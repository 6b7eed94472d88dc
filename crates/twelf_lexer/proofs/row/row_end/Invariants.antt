use Rattle.std.proofs.Common.{length, ◌-◌}
use Rattle.twelf_lexer.proofs.RowLoops.{RowSoFar}
use Rattle.twelf_lexer.proofs.row.row_end.Given as goal

abbrev pub invariant-loop-several : goal.invariant-loop-several
invariant-loop-several l = RowSoFar l.text l.at l.to l.several l.reserved

abbrev pub decreases-loop-several : goal.decreases-loop-several
decreases-loop-several l = length l.text - l.to
