-- The worked cases compute.
use Rattle.std.proofs.Common.{refl}
use Rattle.std.specs.Str.{is_utf8, chars}
use Rattle.std.specs.Str.Lossy.{utf8_valid_len}
use Rattle.name_meaning.specs.Names.{is_among, with_name, with_names, is_ascending}
use Rattle.edit_log_meaning.specs.Log.{with_module, without_module, text_of, library_of}
use Rattle.module_graph_meaning.specs.Walks.{direct, walking, is_ungrounded, ungrounded_names}
use Rattle.module_graph_meaning.specs.Reach.{reach_within, reach}
use Rattle.lf_meaning.specs.HeadMaps.{image_of}
use Rattle.translation_meaning.specs.Translation.{translate_object, translate_head, translate_family, translate_kind, translate_value, compose}
use Rattle.translation_meaning.specs.Differ.{differ_from}
use Rattle.library_meaning.specs.Faces.{structure_of}
use Rattle.library_meaning.specs.Closure.{with_all, with_inclusion}
use Rattle.library_meaning.specs.Resolution.{variable_from, resolve}
use Rattle.library_meaning.specs.Words.{structures_link, row_from, row_meaning}
use Rattle.text_meaning.specs.Cutting.{cut_on, lex}
use Rattle.text_meaning.specs.Parsing.{resume, answer_on, parse}
use Rattle.text_meaning.specs.TextAnswers.{read}
use Rattle.elaborate_meaning.specs.NameHeads.{name_head}
use Rattle.elaborate_meaning.specs.Expansion.{expand_object, expand_head, expand_arguments, expand_family, expand_kind}
use Rattle.elaborate_meaning.specs.Values.{ends_in_type, expand_class, expand_family_value, expand_value}
use Rattle.link_meaning.specs.Assignments.{is_beginning, read_assigns}
use Rattle.link_meaning.specs.Coverings.{covered_tests}
use Rattle.link_meaning.specs.Passes.{rest_behind, reached_by, map_all, assigned_map, link_map}
use Rattle.text_meaning.specs.Dependencies.{dependencies}
use Rattle.verdict_meaning.specs.Modules.{declare_all}
use Rattle.verdict_meaning.specs.Verdicts.{judge}
use Rattle.verdict_meaning.specs.Rounds.{verdict_under, others_reached, rounds, verdicts, verdict_of}
use Rattle.std.specs.Fmt.{digits}
use lib.Utf8.{encode}
use Rattle.printing_meaning.specs.Lines.{lines_of}
use Rattle.printing_meaning.specs.ScriptLines.{text_before, behind_end}
use Rattle.edit_log_meaning.specs.Append.{append_answer, appended, appended_all}
use Rattle.text_meaning.specs.Dividing.{divide_on, divide}
use Rattle.printing_meaning.specs.Prefixes.{marks, free_from, prefix_of}
use Rattle.printing_meaning.specs.Constants.{path_text}
use Rattle.printing_meaning.specs.PrintedTerms.{object_uses, family_uses, kind_uses, object_text, atomic_family_text, family_text, kind_text, binders_text}
use Rattle.printing_meaning.specs.EditLines.{entry_lines}
use Rattle.run_meaning.specs.ScriptCommands.{parted_at_space}
use Rattle.run_meaning.specs.ScriptItems.{items_within, script_of}
use Rattle.run_meaning.specs.ScriptOutput.{report_text, flat_text, carry_text, command_parts, log_after, output_from, output_of}
use Rattle.run_meaning.specs.ScriptLogs.{script_log}
use Rattle.run_meaning.specs.Files.{with_file, module_files, pieces_answer, file_answer, load}
use Rattle.run_meaning.specs.Folders.{folder_output}
use Rattle.run_meaning.specs.Generator.{number_after, first_puts, later_puts, generated, asked_after, installs_of, generator_output}
use Rattle.judged_meaning.specs.Carrying.{carry}
use Rattle.judged_laws.specs.Examples.{NaturalNumbers, MisspelledName, Monoid, AssignedStructure, Ring, CarriedJudgement, ChangedPrefix, Cycle, AFolder, MisspelledInFolder, Generator, GeneratorWithWorkers, ImagesAreCounted}

abbrev computing : Unit {0}
unfolding is_utf8 chars utf8_valid_len is_among with_name with_names with_module without_module text_of direct walking reach_within reach image_of translate_object translate_head translate_family translate_kind translate_value compose differ_from structure_of with_all with_inclusion variable_from resolve structures_link row_from row_meaning cut_on lex resume answer_on parse read name_head expand_object expand_head expand_arguments expand_family expand_kind ends_in_type expand_class expand_family_value expand_value is_beginning read_assigns covered_tests rest_behind reached_by map_all assigned_map link_map dependencies declare_all judge verdict_under others_reached ungrounded_names rounds verdicts verdict_of digits encode lines_of text_before behind_end is_ascending library_of append_answer appended appended_all divide_on divide is_ungrounded marks free_from prefix_of path_text object_uses family_uses kind_uses object_text atomic_family_text family_text kind_text binders_text entry_lines parted_at_space items_within script_of report_text flat_text carry_text command_parts log_after output_from output_of with_file module_files pieces_answer file_answer load folder_output number_after first_puts later_puts generated asked_after installs_of generator_output script_log carry
computing = tt

pub natural_numbers : NaturalNumbers
unfolding computing
natural_numbers = refl

pub misspelled_name : MisspelledName
unfolding computing
misspelled_name = refl

pub monoid : Monoid
unfolding computing
monoid = refl

pub assigned_structure : AssignedStructure
unfolding computing
assigned_structure = refl

pub ring : Ring
unfolding computing
ring = refl

pub carried_judgement : CarriedJudgement
unfolding computing
carried_judgement = refl

pub changed_prefix : ChangedPrefix
unfolding computing
changed_prefix = refl

pub cycle : Cycle
unfolding computing
cycle = refl

pub a_folder : AFolder
unfolding computing
a_folder = refl

pub misspelled_in_folder : MisspelledInFolder
unfolding computing
misspelled_in_folder = refl

pub generator : Generator
unfolding computing
generator = refl

pub generator_with_workers : GeneratorWithWorkers
unfolding computing
generator_with_workers = refl

pub images_are_counted : ImagesAreCounted
unfolding computing
images_are_counted = refl
