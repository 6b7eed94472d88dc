-- What the file of a saved log holds: its edits, or the place where it is damaged (this profile).
use Rattle.std.specs.Prelude.{ℕ, zero, suc, ◌+◌, ◌==◌, List, [], ◌∷◌, ◌++◌, length, take, drop, nat_le, Option, Some, None, if◌then◌else◌, codes}
use Rattle.std.specs.Str.{bytes_eq}
use Rattle.edit_log_meaning.specs.Log.{Edit, Log}
use Rattle.edit_log_meaning.specs.Append.{Edited, Made, Same, Absent, Full, TooLong, TooMany, append_answer}
use Rattle.saved_log_meaning.specs.Records.{Read, record_of, record_size}

-- The edits of the file, in order; or the file is damaged at this byte, counted from 0.
pub data Contents : Type 0 where
  Edits : Log → Contents
  DamagedAt : ℕ → Contents

-- What the file holds where the gate at this place is open and the log, which are the edits in front of the gate, answers so to the
-- edit behind it: an edit that is made belongs to the file, which goes on at the next gate, here the first of the bytes. Another edit
-- is damage at the gate in front of it.
abbrev pub behind_edit : (ℕ → Log → List ℕ → Contents) → ℕ → Log → Edit → List ℕ → Edited → Contents
behind_edit go at log edit bytes (Made version) = go (at + suc (record_size edit)) (log ++ edit ∷ []) bytes
behind_edit go at log edit bytes (Same version) = DamagedAt at
behind_edit go at log edit bytes (Absent version) = DamagedAt at
behind_edit go at log edit bytes Full = DamagedAt at
behind_edit go at log edit bytes TooLong = DamagedAt at
behind_edit go at log edit bytes TooMany = DamagedAt at

-- The same where these bytes stand behind the record of the edit. They have to begin with a gate.
abbrev pub behind_record : (ℕ → Log → List ℕ → Contents) → ℕ → Log → Edit → List ℕ → Contents
behind_record go at log edit [] = DamagedAt at
behind_record go at log edit (gate ∷ bytes) = behind_edit go at log edit (gate ∷ bytes) (append_answer log edit)

-- The same where this record stands behind the gate, if a whole one does.
abbrev pub behind_gate : (ℕ → Log → List ℕ → Contents) → ℕ → Log → Option (Read Edit) → Contents
behind_gate go at log None = DamagedAt at
behind_gate go at log (Some first) = behind_record go at log first.value first.rest

-- What the file holds where these edits stand in front of a place and these bytes from it on, of which the first is a gate. Gate 0 is
-- closed: the edits end there, whatever stands behind it. Every other gate is open, and a record stands behind it. At most so many
-- gates are looked at.
unfoldable pub contents_within : ℕ → ℕ → Log → List ℕ → Contents
contents_within zero at log bytes = DamagedAt at
contents_within (suc gates) at log [] = DamagedAt at
contents_within (suc gates) at log (gate ∷ bytes) =
    if gate == 0 then Edits log else behind_gate (contents_within gates) at log (record_of bytes)

-- The same with no bound, as there are no more gates than bytes.
abbrev pub contents_from : ℕ → Log → List ℕ → Contents
contents_from at log bytes = contents_within (length bytes) at log bytes

-- The bytes that each file begins with: `mmtlog1` and a line feed.
abbrev pub heading : List ℕ
heading = codes "mmtlog1\n"

-- What a file with these bytes holds. One that is no longer than the heading and one gate has no edits, whatever its bytes are. A longer
-- one has to begin with the heading, else it is damaged at its beginning, and its first gate stands behind the heading.
unfoldable pub file_contents : List ℕ → Contents
file_contents bytes =
    if nat_le (length bytes) (suc (length heading)) then Edits []
    else (if bytes_eq (take (length heading) bytes) heading then contents_from (length heading) [] (drop (length heading) bytes)
    else DamagedAt 0)
