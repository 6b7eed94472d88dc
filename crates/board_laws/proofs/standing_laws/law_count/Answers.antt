use Rattle.board_laws.proofs.Counting.{standing_names_stand, install_raises_count, others_keep_count, count_within}
use Rattle.board_laws.proofs.standing_laws.law_count.Goals as goal

pub returns-clause-names : goal.returns-clause-names
returns-clause-names c = standing_names_stand

pub returns-clause-install : goal.returns-clause-install
returns-clause-install c = install_raises_count

pub returns-clause-others : goal.returns-clause-others
returns-clause-others c = others_keep_count

pub returns-clause-within : goal.returns-clause-within
returns-clause-within c = count_within
