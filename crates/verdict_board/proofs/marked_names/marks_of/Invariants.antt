use Rattle.std.proofs.Common.{take}
use Rattle.verdict_board.specs.Marks.{AreMarked}
use Rattle.verdict_board.proofs.marked_names.marks_of.Given as goal

abbrev pub invariant-loop-name : goal.invariant-loop-name
invariant-loop-name l = AreMarked (take l.name-index l.name-items) l.marks
