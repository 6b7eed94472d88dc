use Rattle.board_laws.proofs.Working.{ends_tell_closed, work_ends_closed}
use Rattle.board_laws.proofs.turn_laws.law_work.Goals as goal

pub returns-clause-ends : goal.returns-clause-ends
returns-clause-ends g c = ends_tell_closed

pub returns-clause-work : goal.returns-clause-work
returns-clause-work g c = work_ends_closed
