use Rattle.board_laws.proofs.Backing.{standing_backed, stays_backed, backed_grounded, told_backed, answers_backed}
use Rattle.board_laws.proofs.standing_laws.law_backing.Goals as goal

pub returns-clause-standing : goal.returns-clause-standing
returns-clause-standing g c = standing_backed

pub returns-clause-later : goal.returns-clause-later
returns-clause-later g c = stays_backed

pub returns-clause-grounded : goal.returns-clause-grounded
returns-clause-grounded g c = backed_grounded

pub returns-clause-told : goal.returns-clause-told
returns-clause-told g c = told_backed

pub returns-clause-answers : goal.returns-clause-answers
returns-clause-answers g c = answers_backed
