use Rattle.board_laws.proofs.Told.{standing_answer, report_tells, report_tells_others, claim_gives_job}
use Rattle.board_laws.proofs.standing_laws.law_answers.Goals as goal

pub returns-clause-standing : goal.returns-clause-standing
returns-clause-standing g c = standing_answer

pub returns-clause-report : goal.returns-clause-report
returns-clause-report g c = report_tells

pub returns-clause-others : goal.returns-clause-others
returns-clause-others g c = report_tells_others

pub returns-clause-claim : goal.returns-clause-claim
returns-clause-claim g c = claim_gives_job
