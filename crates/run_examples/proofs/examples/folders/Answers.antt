use Rattle.run_examples.proofs.FoldersComputed.{empty_folder, other_files, bad_files, places_are_in_files, second_of_name, second_in_file, ending_alone, first_of_name, refusals_are_seen}
use Rattle.run_examples.proofs.examples.folders.Goals as goal

pub returns-clause-empty_folder : goal.returns-clause-empty_folder
returns-clause-empty_folder c = empty_folder

pub returns-clause-other_files : goal.returns-clause-other_files
returns-clause-other_files c = other_files

pub returns-clause-bad_files : goal.returns-clause-bad_files
returns-clause-bad_files c = bad_files

pub returns-clause-places_are_in_files : goal.returns-clause-places_are_in_files
returns-clause-places_are_in_files c = places_are_in_files

pub returns-clause-second_of_name : goal.returns-clause-second_of_name
returns-clause-second_of_name c = second_of_name

pub returns-clause-second_in_file : goal.returns-clause-second_in_file
returns-clause-second_in_file c = second_in_file

pub returns-clause-ending_alone : goal.returns-clause-ending_alone
returns-clause-ending_alone c = ending_alone

pub returns-clause-first_of_name : goal.returns-clause-first_of_name
returns-clause-first_of_name c = first_of_name

pub returns-clause-refusals_are_seen : goal.returns-clause-refusals_are_seen
returns-clause-refusals_are_seen c = refusals_are_seen
