use Rattle.std.proofs.Common.{IfSome}
use Rattle.board_meaning.specs.Events.{library_after}
use Rattle.module_graph.specs.ReachParts.{IsReachAmong}
use Rattle.verdict_board.proofs.board.Board.longest.Given as goal

abbrev pub invariant-loop-name : goal.invariant-loop-name
invariant-loop-name g l = IfSome l.longest (λ known. IsReachAmong g.S.Subject.subject.dependencies (library_after l.self) l.names known.now)
