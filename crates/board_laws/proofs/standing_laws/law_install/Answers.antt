use Rattle.board_laws.proofs.Told.{stale_tells, installed_decides, unchanged_decides}
use Rattle.board_laws.proofs.Rising.{install_of_waiting}
use Rattle.board_laws.proofs.standing_laws.law_install.Goals as goal

pub returns-clause-stale : goal.returns-clause-stale
returns-clause-stale c = stale_tells

pub returns-clause-unedited : goal.returns-clause-unedited
returns-clause-unedited c = installed_decides

pub returns-clause-unchanged : goal.returns-clause-unchanged
returns-clause-unchanged c = unchanged_decides

pub returns-clause-waiting : goal.returns-clause-waiting
returns-clause-waiting c = install_of_waiting
