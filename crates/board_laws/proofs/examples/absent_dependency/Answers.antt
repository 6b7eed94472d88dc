use Rattle.board_laws.proofs.Computed.{absent_name_is_input, both_stand, only_dependant_falls, dependency_comes_first}
use Rattle.board_laws.proofs.examples.absent_dependency.Goals as goal

pub returns-clause-input : goal.returns-clause-input
returns-clause-input c = absent_name_is_input

pub returns-clause-stand : goal.returns-clause-stand
returns-clause-stand c = both_stand

pub returns-clause-falls : goal.returns-clause-falls
returns-clause-falls c = only_dependant_falls

pub returns-clause-first : goal.returns-clause-first
returns-clause-first c = dependency_comes_first
