use Rattle.board_laws.proofs.Pointing.{seen_point, point_ends_no_claim, point_has_own}
use Rattle.board_laws.proofs.point_laws.law_points.Goals as goal

pub returns-clause-seen : goal.returns-clause-seen
returns-clause-seen c = seen_point

pub returns-clause-claims : goal.returns-clause-claims
returns-clause-claims c = point_ends_no_claim

pub returns-clause-own : goal.returns-clause-own
returns-clause-own c = point_has_own
