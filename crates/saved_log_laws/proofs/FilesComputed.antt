-- The worked files, by computing.
use Rattle.std.proofs.Common.{refl}
use Rattle.std.specs.Str.{is_utf8, chars}
use lib.Utf8.{encode}
use Rattle.edit_log_meaning.specs.Log.{with_module, without_module, library_of, text_of}
use Rattle.edit_log_meaning.specs.Append.{append_answer}
use Rattle.saved_log_meaning.specs.Records.{record_of}
use Rattle.saved_log_meaning.specs.SavedFiles.{contents_within, file_contents}
use Rattle.saved_log_laws.specs.Examples.{OnePut, PutAndDrop, WrittenPut, JunkIsLeft, AnyOtherByteIsOpen, NineBytesAreNoEdits, TenBytesWithOpenGate, CutFile, OtherHeading, NoGateBehindRecord, OtherKind, ReservedWord, NotUtf8, SameTextAgain, AbsentName, SecondGateIsDamaged}

abbrev computing : Unit {0}
unfolding is_utf8 chars encode with_module without_module library_of text_of append_answer record_of contents_within file_contents
computing = tt

pub one_put : OnePut
unfolding computing
one_put = refl

pub put_and_drop : PutAndDrop
unfolding computing
put_and_drop = refl

pub written_put : WrittenPut
unfolding computing
written_put = refl

pub junk_is_left : JunkIsLeft
unfolding computing
junk_is_left = refl

pub any_other_byte_is_open : AnyOtherByteIsOpen
unfolding computing
any_other_byte_is_open = refl

pub nine_bytes_are_no_edits : NineBytesAreNoEdits
unfolding computing
nine_bytes_are_no_edits = refl

pub ten_bytes_with_open_gate : TenBytesWithOpenGate
unfolding computing
ten_bytes_with_open_gate = refl

pub cut_file : CutFile
unfolding computing
cut_file = refl

pub other_heading : OtherHeading
unfolding computing
other_heading = refl

pub no_gate_behind_record : NoGateBehindRecord
unfolding computing
no_gate_behind_record = refl

pub other_kind : OtherKind
unfolding computing
other_kind = refl

pub reserved_word : ReservedWord
unfolding computing
reserved_word = refl

pub not_utf8 : NotUtf8
unfolding computing
not_utf8 = refl

pub same_text_again : SameTextAgain
unfolding computing
same_text_again = refl

pub absent_name : AbsentName
unfolding computing
absent_name = refl

pub second_gate_is_damaged : SecondGateIsDamaged
unfolding computing
second_gate_is_damaged = refl
