use Rattle.board_laws.proofs.Standings.{stands_decides, standing_grounded}
use Rattle.board_laws.proofs.Told.{inputs_are_reach, standing_rests_told}
use Rattle.board_laws.proofs.standing_laws.law_standing.Goals as goal

pub returns-clause-decided : goal.returns-clause-decided
returns-clause-decided c = stands_decides

pub returns-clause-inputs : goal.returns-clause-inputs
returns-clause-inputs c = inputs_are_reach

pub returns-clause-grounded : goal.returns-clause-grounded
returns-clause-grounded c = λ d H n l t. standing_grounded d H l n t

pub returns-clause-rests : goal.returns-clause-rests
returns-clause-rests c = standing_rests_told
