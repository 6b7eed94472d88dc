use Rattle.run_examples.proofs.ScriptsComputed.{nothing_is_printed, put_twice_dropped_twice, log_is_printed, unended_text, bad_command, long_comment, too_long_comment, cut_in_command, cut_behind_command, cut_in_end_line, cut_behind_end_line, cut_in_name, no_judgement, last_return_counts, last_return_is_blank, comment_of_bytes, other_lines, log_is_left, tells_grounded}
use Rattle.run_examples.proofs.examples.scripts.Goals as goal

pub returns-clause-nothing_is_printed : goal.returns-clause-nothing_is_printed
returns-clause-nothing_is_printed c = nothing_is_printed

pub returns-clause-put_twice_dropped_twice : goal.returns-clause-put_twice_dropped_twice
returns-clause-put_twice_dropped_twice c = put_twice_dropped_twice

pub returns-clause-log_is_printed : goal.returns-clause-log_is_printed
returns-clause-log_is_printed c = log_is_printed

pub returns-clause-unended_text : goal.returns-clause-unended_text
returns-clause-unended_text c = unended_text

pub returns-clause-bad_command : goal.returns-clause-bad_command
returns-clause-bad_command c = bad_command

pub returns-clause-long_comment : goal.returns-clause-long_comment
returns-clause-long_comment c = long_comment

pub returns-clause-too_long_comment : goal.returns-clause-too_long_comment
returns-clause-too_long_comment c = too_long_comment

pub returns-clause-cut_in_command : goal.returns-clause-cut_in_command
returns-clause-cut_in_command c = cut_in_command

pub returns-clause-cut_behind_command : goal.returns-clause-cut_behind_command
returns-clause-cut_behind_command c = cut_behind_command

pub returns-clause-cut_in_end_line : goal.returns-clause-cut_in_end_line
returns-clause-cut_in_end_line c = cut_in_end_line

pub returns-clause-cut_behind_end_line : goal.returns-clause-cut_behind_end_line
returns-clause-cut_behind_end_line c = cut_behind_end_line

pub returns-clause-cut_in_name : goal.returns-clause-cut_in_name
returns-clause-cut_in_name c = cut_in_name

pub returns-clause-no_judgement : goal.returns-clause-no_judgement
returns-clause-no_judgement c = no_judgement

pub returns-clause-last_return_counts : goal.returns-clause-last_return_counts
returns-clause-last_return_counts c = last_return_counts

pub returns-clause-other_lines : goal.returns-clause-other_lines
returns-clause-other_lines c = other_lines

pub returns-clause-last_return_is_blank : goal.returns-clause-last_return_is_blank
returns-clause-last_return_is_blank c = last_return_is_blank

pub returns-clause-comment_of_bytes : goal.returns-clause-comment_of_bytes
returns-clause-comment_of_bytes c = comment_of_bytes

pub returns-clause-log_is_left : goal.returns-clause-log_is_left
returns-clause-log_is_left c = log_is_left

pub returns-clause-tells_grounded : goal.returns-clause-tells_grounded
returns-clause-tells_grounded c = tells_grounded
