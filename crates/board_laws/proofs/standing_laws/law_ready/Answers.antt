use Rattle.board_laws.proofs.Progress.{some_ready}
use Rattle.board_laws.proofs.Legality.{legal_least}
use Rattle.board_laws.proofs.Entries.{least_is_least}
use Rattle.board_laws.proofs.Told.{ready_rests_told}
use Rattle.board_laws.proofs.standing_laws.law_ready.Goals as goal

pub returns-clause-some : goal.returns-clause-some
returns-clause-some c = λ d H n c g s o. some_ready d H c o n g s

pub returns-clause-least : goal.returns-clause-least
returns-clause-least c = least_is_least

pub returns-clause-claims : goal.returns-clause-claims
returns-clause-claims c = λ d H c n l h. legal_least d H l c n h

pub returns-clause-rests : goal.returns-clause-rests
returns-clause-rests c = ready_rests_told
