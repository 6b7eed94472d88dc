use Rattle.board_seats.proofs.Staying.{jobs_stay, jobs_stay_joined}
use Rattle.board_seats.proofs.job_laws.law_jobs.Goals as goal

pub returns-clause-calls : goal.returns-clause-calls
returns-clause-calls g c = jobs_stay

pub returns-clause-joins : goal.returns-clause-joins
returns-clause-joins g c = jobs_stay_joined
