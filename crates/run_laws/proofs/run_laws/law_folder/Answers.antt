use Rattle.run_laws.proofs.Logs.{folders_tell_all, folder_tellings_are_grounded}
use Rattle.run_laws.proofs.run_laws.law_folder.Goals as goal

pub returns-clause-grounded : goal.returns-clause-grounded
returns-clause-grounded c = folder_tellings_are_grounded

pub returns-clause-all : goal.returns-clause-all
returns-clause-all c = folders_tell_all
