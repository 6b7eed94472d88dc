use Rattle.board_laws.proofs.Computed.{job_has_answers, answers_are_told}
use Rattle.board_laws.proofs.examples.answers_of_dependency.Goals as goal

pub returns-clause-job : goal.returns-clause-job
returns-clause-job c = job_has_answers

pub returns-clause-told : goal.returns-clause-told
returns-clause-told c = answers_are_told
