use Rattle.board_laws.proofs.Turning.{turns_are_seen, turns_without_memory}
use Rattle.board_laws.proofs.Ending.{turns_may_end}
use Rattle.board_laws.proofs.turn_laws.law_turns.Goals as goal

pub returns-clause-seen : goal.returns-clause-seen
returns-clause-seen g c = turns_are_seen

pub returns-clause-no_memory : goal.returns-clause-no_memory
returns-clause-no_memory g c = turns_without_memory

pub returns-clause-may_end : goal.returns-clause-may_end
returns-clause-may_end g c = turns_may_end
