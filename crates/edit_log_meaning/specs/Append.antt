-- Which edits a log takes, and what it answers (this profile).
use Rattle.name_meaning.specs.Limits.{total_limit, edit_limit, module_limit, text_limit}
use Rattle.std.specs.Prelude.{◌≡◌, true, ◌≤◌, ℕ, suc, Bool, false, List, [], ◌∷◌, ◌++◌, ◌+◌, ◌&&◌, ◌||◌, not, length, sum_by, fold, nat_lt, nat_le, Option, Some, None, if◌then◌else◌}
use Rattle.std.specs.List.{list_all}
use Rattle.std.specs.Str.{bytes_eq}
use Rattle.name_meaning.specs.Names.{Text}
use Rattle.edit_log_meaning.specs.Log.{Edit, Put, Drop, Log, library_of, text_of, is_present, version_of}

-- The edit was made; the library has the name with an equal text; the library lacks the name that is to be
-- dropped: each with the version afterwards. Or the edit is refused.
pub data Edited : Type 0 where
  Made : ℕ → Edited
  Same : ℕ → Edited
  Absent : ℕ → Edited
  Full : Edited
  TooLong : Edited
  TooMany : Edited

-- How many bytes an edit puts.
abbrev pub size_of : Edit → ℕ
size_of (Put name text) = length text
size_of (Drop name) = 0

-- The edit puts no text that is longer than the limit of a text.
abbrev pub is_short : Edit → Bool
is_short edit = nat_le (size_of edit) text_limit

-- The sum of the lengths of all texts ever put.
abbrev pub total_size : Log → ℕ
total_size log = sum_by size_of log

-- No further edit can be made, or this one's text would pass the limit of all texts.
abbrev pub is_full : Log → Edit → Bool
is_full log edit = nat_le edit_limit (version_of log) || nat_lt total_limit (total_size log + size_of edit)

-- The edit is made, unless the log is full.
abbrev pub made_unless_full : Log → Edit → Edited
made_unless_full log edit = if is_full log edit then Full else Made (suc (version_of log))

-- This is the text.
abbrev pub is_text : Text → Option Text → Bool
is_text text None = false
is_text text (Some other) = bytes_eq text other

-- The answer to an edit, by the first of these tests that holds.
unfoldable pub append_answer : Log → Edit → Edited
append_answer log (Put name text) =
    if nat_lt text_limit (length text) then TooLong
    else (if is_text text (text_of (library_of log) name) then Same (version_of log)
    else (if not (is_present (library_of log) name) && nat_le module_limit (length (library_of log)) then TooMany
    else made_unless_full log (Put name text)))
append_answer log (Drop name) =
    if not (is_present (library_of log) name) then Absent (version_of log) else made_unless_full log (Drop name)

-- The log after an edit that was answered so.
abbrev pub log_after : Log → Edit → Edited → Log
log_after log edit (Made version) = log ++ edit ∷ []
log_after log edit (Same version) = log
log_after log edit (Absent version) = log
log_after log edit Full = log
log_after log edit TooLong = log
log_after log edit TooMany = log

-- The log after the edit.
unfoldable pub appended : Log → Edit → Log
appended log edit = log_after log edit (append_answer log edit)

-- The log after these edits, one after another.
unfoldable pub appended_all : Log → List Edit → Log
appended_all log edits = fold appended log edits

-- The log keeps to all limits: of each text that was put, of the edits, of the modules that are left, and of all texts
-- together.
pub record IsWithinLimits (log : Log) : Type 0 where
  pub texts : list_all is_short log ≡ true
  pub edits : version_of log ≤ edit_limit
  pub modules : length (library_of log) ≤ module_limit
  pub total : total_size log ≤ total_limit
