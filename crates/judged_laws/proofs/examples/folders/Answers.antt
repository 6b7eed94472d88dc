use Rattle.judged_laws.proofs.Computed.{a_folder, misspelled_in_folder}
use Rattle.judged_laws.proofs.examples.folders.Goals as goal

pub returns-clause-a_folder : goal.returns-clause-a_folder
returns-clause-a_folder c = a_folder

pub returns-clause-misspelled_in_folder : goal.returns-clause-misspelled_in_folder
returns-clause-misspelled_in_folder c = misspelled_in_folder
