-- The lines of edits and of the log (this profile).
use Rattle.std.specs.Prelude.{ℕ, suc, List, [], ◌∷◌, ◌++◌, length, codes}
use Rattle.std.specs.Fmt.{decimal}
use Rattle.printing_meaning.specs.Printed.{end_of_line}
use Rattle.name_meaning.specs.Names.{Name}
use Rattle.edit_log_meaning.specs.Log.{Edit, Put, Drop, edited_name, Log, version_of}
use Rattle.edit_log_meaning.specs.Append.{Edited, Made, Same, Absent, Full, TooLong, TooMany, append_answer, appended}

abbrev pub made_word : Edit → List ℕ
made_word (Put name text) = codes "put"
made_word (Drop name) = codes "drop"

-- The word of an edit that was answered so.
abbrev pub edit_word : Edit → Edited → List ℕ
edit_word edit (Made version) = made_word edit
edit_word edit (Same version) = codes "same"
edit_word edit (Absent version) = codes "absent"
edit_word edit Full = codes "full"
edit_word edit TooLong = codes "too-long"
edit_word edit TooMany = codes "too-many"

-- `@V WORD N`.
abbrev pub edit_line : List ℕ → Name → ℕ → List ℕ
edit_line word name version = codes "@" ++ decimal version ++ codes " " ++ word ++ codes " " ++ name ++ end_of_line

-- The line of an edit over the log before it. The version is that after the edit.
abbrev pub edited_line : Log → Edit → List ℕ
edited_line log edit = edit_line (edit_word edit (append_answer log edit)) (edited_name edit) (version_of (appended log edit))

-- `k put N B`, with B the number of bytes of the text, or `k drop N`.
abbrev pub entry_line : ℕ → Edit → List ℕ
entry_line version (Put name text) = decimal version ++ codes " put " ++ name ++ codes " " ++ decimal (length text) ++ end_of_line
entry_line version (Drop name) = decimal version ++ codes " drop " ++ name ++ end_of_line

-- The lines of these edits, the first of which made this version.
unfoldable pub entry_lines : ℕ → Log → List ℕ
entry_lines version [] = []
entry_lines version (edit ∷ edits) = entry_line version edit ++ entry_lines (suc version) edits

-- `@V log`, and then the line of each edit made, in order.
abbrev pub log_text : Log → List ℕ
log_text log = codes "@" ++ decimal (version_of log) ++ codes " log" ++ end_of_line ++ entry_lines 1 log
