use Rattle.run_examples.proofs.FoldersComputed.{ungrounded_are_not_installed, ungrounded_are_left_out}
use Rattle.run_examples.proofs.examples.installs.Goals as goal

pub returns-clause-not_installed : goal.returns-clause-not_installed
returns-clause-not_installed c = ungrounded_are_not_installed

pub returns-clause-left_out : goal.returns-clause-left_out
returns-clause-left_out c = ungrounded_are_left_out
