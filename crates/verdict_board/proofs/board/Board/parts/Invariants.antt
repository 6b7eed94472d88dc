use Rattle.board_meaning.specs.Events.{library_after}
use Rattle.verdict_board.proofs.Gathers.{ArePartsTo}
use Rattle.verdict_board.proofs.board.Board.parts.Given as goal

abbrev pub invariant-loop-dependency : goal.invariant-loop-dependency
invariant-loop-dependency g l = ArePartsTo g.S.Subject.subject.dependencies (library_after l.self) l.dependencies l.longest l.dependency-index l.parts.items
