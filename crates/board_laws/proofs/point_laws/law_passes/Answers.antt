use Rattle.board_laws.proofs.Passing.{below_is_less, front_knows, joins_are_seen}
use Rattle.board_laws.proofs.point_laws.law_passes.Goals as goal

pub returns-clause-below : goal.returns-clause-below
returns-clause-below g c = below_is_less

pub returns-clause-front : goal.returns-clause-front
returns-clause-front g c = front_knows

pub returns-clause-joins : goal.returns-clause-joins
returns-clause-joins g c = joins_are_seen
