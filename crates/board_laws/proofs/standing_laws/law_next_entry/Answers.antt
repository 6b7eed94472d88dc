use Rattle.board_laws.proofs.Told.{edit_leaves_told, install_makes_told}
use Rattle.board_laws.proofs.Following.{others_leave}
use Rattle.board_laws.proofs.standing_laws.law_next_entry.Goals as goal

pub returns-clause-edit : goal.returns-clause-edit
returns-clause-edit c = edit_leaves_told

pub returns-clause-install : goal.returns-clause-install
returns-clause-install c = install_makes_told

pub returns-clause-others : goal.returns-clause-others
returns-clause-others c = λ d H e n l g i. others_leave d H l e n g i
