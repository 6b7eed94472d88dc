use Rattle.board_laws.proofs.Pointing.{calls_are_seen, wants_are_seen}
use Rattle.board_laws.proofs.Replying.{wants_are_of_these}
use Rattle.board_laws.proofs.point_laws.law_calls.Goals as goal

pub returns-clause-happens : goal.returns-clause-happens
returns-clause-happens g c = calls_are_seen

pub returns-clause-no_memory : goal.returns-clause-no_memory
returns-clause-no_memory g c = wants_are_seen

pub returns-clause-wants : goal.returns-clause-wants
returns-clause-wants g c = wants_are_of_these
