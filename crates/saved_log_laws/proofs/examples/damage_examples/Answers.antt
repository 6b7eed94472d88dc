use Rattle.saved_log_laws.proofs.FilesComputed.{ten_bytes_with_open_gate, cut_file, other_heading, no_gate_behind_record, other_kind, reserved_word, not_utf8, same_text_again, absent_name, second_gate_is_damaged}
use Rattle.saved_log_laws.proofs.examples.damage_examples.Goals as goal

pub returns-clause-gate : goal.returns-clause-gate
returns-clause-gate c = ten_bytes_with_open_gate

pub returns-clause-cut : goal.returns-clause-cut
returns-clause-cut c = cut_file

pub returns-clause-heading : goal.returns-clause-heading
returns-clause-heading c = other_heading

pub returns-clause-behind : goal.returns-clause-behind
returns-clause-behind c = no_gate_behind_record

pub returns-clause-kind : goal.returns-clause-kind
returns-clause-kind c = other_kind

pub returns-clause-reserved : goal.returns-clause-reserved
returns-clause-reserved c = reserved_word

pub returns-clause-utf8 : goal.returns-clause-utf8
returns-clause-utf8 c = not_utf8

pub returns-clause-same : goal.returns-clause-same
returns-clause-same c = same_text_again

pub returns-clause-absent : goal.returns-clause-absent
returns-clause-absent c = absent_name

pub returns-clause-second : goal.returns-clause-second
returns-clause-second c = second_gate_is_damaged
