use Rattle.saved_log_laws.proofs.FilesComputed.{one_put, put_and_drop, written_put, junk_is_left, any_other_byte_is_open, nine_bytes_are_no_edits}
use Rattle.saved_log_laws.proofs.examples.edit_examples.Goals as goal

pub returns-clause-put : goal.returns-clause-put
returns-clause-put c = one_put

pub returns-clause-drop : goal.returns-clause-drop
returns-clause-drop c = put_and_drop

pub returns-clause-written : goal.returns-clause-written
returns-clause-written c = written_put

pub returns-clause-behind : goal.returns-clause-behind
returns-clause-behind c = junk_is_left

pub returns-clause-open : goal.returns-clause-open
returns-clause-open c = any_other_byte_is_open

pub returns-clause-short : goal.returns-clause-short
returns-clause-short c = nine_bytes_are_no_edits
