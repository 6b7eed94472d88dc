-- What the edits and answers of this crate stand for (this profile).
use Rattle.std.specs.Prelude.{◌≡◌, ℕ, map, Result, Ok, Err}
use Rattle.name_meaning.specs.Names.{Name, Text}
use Rattle.edit_log_meaning.specs.Log as logs
use Rattle.edit_log_meaning.specs.Append as answers
use Rattle.name_meaning.specs.Rows.{Rows}
use Rattle.edit_log.specs.declared.edit.Edit.{Edit}
use Rattle.edit_log.specs.declared.edit.Edit.TheVariants.{Put, Drop}
use Rattle.edit_log.specs.declared.answers.Edited.{Edited}
use Rattle.edit_log.specs.declared.answers.Edited.TheVariants.{Made, Same, Absent}
use Rattle.edit_log.specs.declared.answers.EditFault.{EditFault}
use Rattle.edit_log.specs.declared.answers.EditFault.TheVariants.{Full, TooLong, TooMany, Memory}

-- An edit.
abbrev pub read_edit : Edit → logs.Edit
read_edit (Put name text) = logs.Put name text
read_edit (Drop name) = logs.Drop name

-- A table of texts is a library.
abbrev pub read_library : Rows Text → logs.Library
read_library rows = map (λ (row : Name × Text). record { name = row.0; text = row.1 }) rows

-- An answer, where the edit is not refused.
abbrev pub read_edited : Edited → answers.Edited
read_edited (Made version) = answers.Made version
read_edited (Same version) = answers.Same version
read_edited (Absent version) = answers.Absent version

-- What a call returned is the log's answer, or a refusal that is. Want of memory comes in place of an edit that would be made.
abbrev pub IsAnswer : Result Edited EditFault → answers.Edited → Type 0
IsAnswer (Ok edited) answer = answer ≡ read_edited edited
IsAnswer (Err Full) answer = answer ≡ answers.Full
IsAnswer (Err TooLong) answer = answer ≡ answers.TooLong
IsAnswer (Err TooMany) answer = answer ≡ answers.TooMany
IsAnswer (Err Memory) answer = (version : ℕ) × (answer ≡ answers.Made version)
