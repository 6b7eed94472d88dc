use Rattle.board_laws.proofs.Pointing.{point_keeps_job, job_may_end}
use Rattle.board_laws.proofs.point_laws.law_jobs.Goals as goal

pub returns-clause-kept : goal.returns-clause-kept
returns-clause-kept g c = point_keeps_job

pub returns-clause-may_end : goal.returns-clause-may_end
returns-clause-may_end g c = job_may_end
