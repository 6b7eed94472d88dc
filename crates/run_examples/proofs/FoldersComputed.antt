-- The worked examples compute.
use Rattle.std.proofs.Common.{refl}
use Rattle.std.specs.Str.{is_utf8, chars}
use Rattle.std.specs.Fmt.{digits}
use lib.Utf8.{encode}
use Rattle.name_meaning.specs.Names.{is_among, with_name, with_names}
use Rattle.module_graph_meaning.specs.Walks.{direct, walking, is_ungrounded, ungrounded_names}
use Rattle.module_graph_meaning.specs.Reach.{reach_within, reach}
use Rattle.edit_log_meaning.specs.Log.{with_module, without_module, library_of, text_of}
use Rattle.edit_log_meaning.specs.Append.{append_answer, appended}
use Rattle.text_meaning.specs.Cutting.{cut_on, lex}
use Rattle.text_meaning.specs.Dividing.{divide_on, divide}
use Rattle.printing_meaning.specs.Constants.{path_text}
use Rattle.run_meaning.specs.Files.{with_file, module_files, pieces_answer, file_answer, load}
use Rattle.run_meaning.specs.Folders.{folder_output, has_refusal}
use Rattle.run_meaning.specs.Generator.{number_after, first_puts, later_puts, generated, asked_after}
use Rattle.run_examples.specs.FolderExamples.{EmptyFolder, OtherFiles, BadFiles, PlacesAreInFiles, SecondOfName, SecondInFile, EndingAlone, DrawsAreMade, ParentsAreDrawn, EditsAreDrawn, TextsAreMade, FirstHasNoParent, EditsStandInOrder, FirstOfName, RefusalsAreSeen, UngroundedAreNotInstalled, UngroundedAreLeftOut}

abbrev computing : Unit {0}
unfolding is_utf8 chars digits encode is_among with_name with_names direct walking is_ungrounded ungrounded_names reach_within reach with_module without_module library_of text_of append_answer appended lex cut_on divide_on divide path_text with_file module_files pieces_answer file_answer load folder_output has_refusal number_after first_puts later_puts generated asked_after
computing = tt

pub empty_folder : EmptyFolder
unfolding computing
empty_folder judging = refl

pub other_files : OtherFiles
unfolding computing
other_files judging = refl

pub bad_files : BadFiles
unfolding computing
bad_files judging = refl

pub places_are_in_files : PlacesAreInFiles
unfolding computing
places_are_in_files = refl

pub second_of_name : SecondOfName
unfolding computing
second_of_name = refl

pub second_in_file : SecondInFile
unfolding computing
second_in_file judging = refl

pub ending_alone : EndingAlone
unfolding computing
ending_alone judging = refl

pub draws_are_made : DrawsAreMade
unfolding computing
draws_are_made = refl

pub parents_are_drawn : ParentsAreDrawn
unfolding computing
parents_are_drawn = refl

pub edits_are_drawn : EditsAreDrawn
unfolding computing
edits_are_drawn = refl

pub texts_are_made : TextsAreMade
unfolding computing
texts_are_made = refl

pub first_has_no_parent : FirstHasNoParent
unfolding computing
first_has_no_parent = refl

pub edits_stand_in_order : EditsStandInOrder
unfolding computing
edits_stand_in_order = refl

pub first_of_name : FirstOfName
unfolding computing
first_of_name judging = refl

pub refusals_are_seen : RefusalsAreSeen
unfolding computing
refusals_are_seen = refl

pub ungrounded_are_not_installed : UngroundedAreNotInstalled
unfolding computing
ungrounded_are_not_installed = refl

pub ungrounded_are_left_out : UngroundedAreLeftOut
unfolding computing
ungrounded_are_left_out = refl
