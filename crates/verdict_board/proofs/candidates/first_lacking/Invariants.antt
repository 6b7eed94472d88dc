use Rattle.std.proofs.Common.{take}
use Rattle.verdict_board.specs.Readiness.{NoneLacks}
use Rattle.verdict_board.proofs.candidates.first_lacking.Given as goal

abbrev pub invariant-loop-name : goal.invariant-loop-name
invariant-loop-name g l = NoneLacks l.stages (take l.name-index l.name-items)
