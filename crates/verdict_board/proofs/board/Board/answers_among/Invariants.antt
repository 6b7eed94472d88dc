use Rattle.std.proofs.Common.{not}
use Rattle.name_meaning.specs.Names.{Name, same_name}
use Rattle.module_graph_meaning.specs.Subject.{present_answer}
use Rattle.board_meaning.specs.Events.{library_after}
use Rattle.verdict_board.proofs.Reports.{AreAnswers}
use Rattle.verdict_board.proofs.board.Board.answers_among.Given as goal

abbrev pub invariant-loop-other : goal.invariant-loop-other
invariant-loop-other g l =
    AreAnswers g.S.Subject.meaning (present_answer g.S.Subject.subject (library_after l.self)) (λ (other : Name). not (same_name l.name other)) l.reached l.other-index l.answers
