-- The worked examples compute.
use Rattle.std.proofs.Common.{refl}
use Rattle.std.specs.Str.{is_utf8, chars}
use Rattle.std.specs.Fmt.{digits}
use lib.Utf8.{encode}
use Rattle.printing_meaning.specs.Lines.{lines_of}
use Rattle.printing_meaning.specs.ScriptLines.{text_before, behind_end}
use Rattle.name_meaning.specs.Names.{is_among, is_ascending, with_name, with_names}
use Rattle.edit_log_meaning.specs.Log.{with_module, without_module, library_of, text_of}
use Rattle.edit_log_meaning.specs.Append.{append_answer, appended}
use Rattle.printing_meaning.specs.EditLines.{entry_lines}
use Rattle.run_meaning.specs.ScriptCommands.{parted_at_space}
use Rattle.run_meaning.specs.ScriptItems.{items_within, script_of}
use Rattle.run_meaning.specs.ScriptOutput.{report_text, flat_text, carry_text, command_parts, log_after, output_from, output_of}
use Rattle.module_graph_meaning.specs.Walks.{direct, walking, is_ungrounded, ungrounded_names}
use Rattle.run_meaning.specs.ScriptLogs.{script_log, told_from, script_told}
use Rattle.run_examples.specs.ScriptExamples.{NothingIsPrinted, PutTwiceDroppedTwice, LogIsPrinted, UnendedText, BadCommand, LongComment, TooLongComment, CutInCommand, CutBehindCommand, CutInEndLine, CutBehindEndLine, CutInName, NoJudgement, LastReturnCounts, LastReturnIsBlank, CommentOfBytes, OtherLines, LogIsLeft, TellsGrounded}

abbrev computing : Unit {0}
unfolding is_utf8 chars digits encode lines_of text_before behind_end is_among with_module without_module library_of text_of append_answer appended entry_lines parted_at_space items_within script_of report_text flat_text carry_text command_parts log_after output_from output_of is_ascending with_name with_names direct walking is_ungrounded ungrounded_names script_log told_from script_told
computing = tt

pub nothing_is_printed : NothingIsPrinted
unfolding computing
nothing_is_printed judging = refl

pub put_twice_dropped_twice : PutTwiceDroppedTwice
unfolding computing
put_twice_dropped_twice judging = refl

pub log_is_printed : LogIsPrinted
unfolding computing
log_is_printed judging = refl

pub unended_text : UnendedText
unfolding computing
unended_text judging = refl

pub bad_command : BadCommand
unfolding computing
bad_command judging = refl

pub long_comment : LongComment
unfolding computing
long_comment judging = refl

pub too_long_comment : TooLongComment
unfolding computing
too_long_comment judging = refl

pub cut_in_command : CutInCommand
unfolding computing
cut_in_command judging = refl

pub cut_behind_command : CutBehindCommand
unfolding computing
cut_behind_command judging = refl

pub cut_in_end_line : CutInEndLine
unfolding computing
cut_in_end_line judging = refl

pub cut_behind_end_line : CutBehindEndLine
unfolding computing
cut_behind_end_line judging = refl

pub cut_in_name : CutInName
unfolding computing
cut_in_name judging = refl

pub no_judgement : NoJudgement
unfolding computing
no_judgement judging = refl

pub last_return_counts : LastReturnCounts
unfolding computing
last_return_counts judging = refl

pub last_return_is_blank : LastReturnIsBlank
unfolding computing
last_return_is_blank judging = refl

pub comment_of_bytes : CommentOfBytes
unfolding computing
comment_of_bytes judging = refl

pub other_lines : OtherLines
unfolding computing
other_lines judging = refl

pub log_is_left : LogIsLeft
unfolding computing
log_is_left = refl

pub tells_grounded : TellsGrounded
unfolding computing
tells_grounded = refl
