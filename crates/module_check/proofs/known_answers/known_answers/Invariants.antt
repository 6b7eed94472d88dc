use Rattle.std.proofs.Common.{not}
use Rattle.name_meaning.specs.Names.{Name, same_name}
use Rattle.edit_log_meaning.specs.Log.{library_of}
use Rattle.module_graph_meaning.specs.Subject.{present_answer}
use Rattle.verdict_meaning.specs.Rounds.{modules}
use Rattle.mmt_interface.specs.Readings.{read_verdict}
use Rattle.verdict_board.proofs.Reports.{AreAnswers}
use Rattle.module_check.proofs.known_answers.known_answers.Given as goal

abbrev pub invariant-loop-other : goal.invariant-loop-other
invariant-loop-other l =
    AreAnswers read_verdict (present_answer modules (library_of l.log)) (λ (other : Name). not (same_name l.name other)) l.other-items l.other-index l.answers
