use Rattle.board_laws.proofs.Replying.{calls_are_told, questions_are_told}
use Rattle.board_laws.proofs.point_laws.law_replies.Goals as goal

pub returns-clause-calls : goal.returns-clause-calls
returns-clause-calls g c = calls_are_told

pub returns-clause-questions : goal.returns-clause-questions
returns-clause-questions g c = questions_are_told
