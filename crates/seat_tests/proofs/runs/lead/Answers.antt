use Rattle.board_laws.proofs.Pointing.{calls_are_seen}
use Rattle.seat_tests.specs.Sizes.{sizes}
use Rattle.seat_tests.proofs.runs.lead.Goals as goal

pub returns-clause-legal : goal.returns-clause-legal
returns-clause-legal g c = (calls_are_seen sizes _ _ _ _ c.close.new.pass.seen c.close.ensures.happens).legal
