use Rattle.board_laws.proofs.Entries.{ends_are_of_claimants, stale_entries_tell, closes_are_of_front}
use Rattle.board_laws.proofs.Standings.{installed_entry}
use Rattle.board_laws.proofs.history_laws.law_entries.Goals as goal

pub returns-clause-ends : goal.returns-clause-ends
returns-clause-ends c = ends_are_of_claimants

pub returns-clause-stale : goal.returns-clause-stale
returns-clause-stale c = stale_entries_tell

pub returns-clause-installed : goal.returns-clause-installed
returns-clause-installed c = λ d H p k e l s g. installed_entry d H l p k e s g

pub returns-clause-closes : goal.returns-clause-closes
returns-clause-closes c = closes_are_of_front
