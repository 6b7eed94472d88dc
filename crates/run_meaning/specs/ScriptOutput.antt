-- What a script prints (this profile).
use Rattle.std.specs.Prelude.{ℕ, Bool, true, false, List, [], ◌∷◌, ◌++◌, map, Option, Some, None}
use Rattle.printing_meaning.specs.Printed.{absent_line, bad_line, unended_line}
use Rattle.name_meaning.specs.Names.{Name, Text}
use Rattle.edit_log_meaning.specs.Log.{Log, Library, names_of, library_of, text_of, version_of}
use Rattle.edit_log_meaning.specs.Append.{appended}
use Rattle.library_meaning.specs.Faces.{Environment}
use Rattle.printing_meaning.specs.PrintedTables.{theory_text, view_text}
use Rattle.printing_meaning.specs.EditLines.{edited_line, log_text}
use Rattle.printing_meaning.specs.VerdictLines.{Judged, Refused, AcceptedTheory, AcceptedView, place_text, refused_line, judged_line}
use Rattle.printing_meaning.specs.CarriedLines.{carried_line}
use Rattle.run_meaning.specs.Judging.{Judging, environment_of, seen_along}
use Rattle.run_meaning.specs.Parts.{Telling, Part, silent_part, part_about, parts_text, parts_told}
use Rattle.run_meaning.specs.ScriptCommands.{Command, EditCommand, ReportCommand, CheckCommand, FlatCommand, CarryCommand, LogCommand, BlankCommand}
use Rattle.run_meaning.specs.ScriptItems.{Item, Spoken, BadAt, UnendedAt, script_of}

-- The verdict line of a name that has this text, if it has one.
abbrev pub verdict_by : Judging → Library → ℕ → Name → Option Text → List ℕ
verdict_by judging library version name None = absent_line name version
verdict_by judging library version name (Some text) =
    judged_line (environment_of judging library) name version (place_text text) (judging.judged library name)

-- The verdict line of a name over a log.
unfoldable pub report_text : Judging → Log → Name → List ℕ
report_text judging log name = verdict_by judging (library_of log) (version_of log) name (text_of (library_of log) name)

-- The flat text of a module that was accepted, else the verdict line.
abbrev pub flat_by_judged : Environment → ℕ → Name → Text → Judged → List ℕ
flat_by_judged environment version name text (Refused refusal) = refused_line name version (place_text text refusal.at) refusal
flat_by_judged environment version name text (AcceptedTheory face) = theory_text environment name version face
flat_by_judged environment version name text (AcceptedView face) = view_text environment name version face

abbrev pub flat_by : Judging → Library → ℕ → Name → Option Text → List ℕ
flat_by judging library version name None = absent_line name version
flat_by judging library version name (Some text) =
    flat_by_judged (environment_of judging library) version name text (judging.judged library name)

unfoldable pub flat_text : Judging → Log → Name → List ℕ
flat_text judging log name = flat_by judging (library_of log) (version_of log) name (text_of (library_of log) name)

unfoldable pub carry_text : Judging → Log → Name → Text → List ℕ
carry_text judging log view judgement =
    carried_line view (version_of log) (seen_along (environment_of judging (library_of log)) view) (judging.carried (library_of log) view judgement)

-- The verdict line of a name, as a part.
abbrev pub report_part : Judging → Log → Name → Part
report_part judging log name = part_about judging.dependencies log name (report_text judging log name)

-- What a command prints over the log before it. A check prints the verdict line of every module, in byte order of names.
unfoldable pub command_parts : Judging → Log → Command → List Part
command_parts judging log (EditCommand edit) = silent_part (edited_line log edit) ∷ []
command_parts judging log (ReportCommand name) = report_part judging log name ∷ []
command_parts judging log CheckCommand = map (report_part judging log) (names_of (library_of log))
command_parts judging log (FlatCommand name) = part_about judging.dependencies log name (flat_text judging log name) ∷ []
command_parts judging log (CarryCommand view judgement) = part_about judging.dependencies log view (carry_text judging log view judgement) ∷ []
command_parts judging log LogCommand = silent_part (log_text log) ∷ []
command_parts judging log BlankCommand = []

-- The lines of a command over the log before it, and what they tell.
abbrev pub command_text : Judging → Log → Command → List ℕ
command_text judging log command = parts_text (command_parts judging log command)

abbrev pub command_told : Judging → Log → Command → List Telling
command_told judging log command = parts_told (command_parts judging log command)

-- The log after a command. Edits alone change it.
unfoldable pub log_after : Log → Command → Log
log_after log (EditCommand edit) = appended log edit
log_after log (ReportCommand name) = log
log_after log CheckCommand = log
log_after log (FlatCommand name) = log
log_after log (CarryCommand view judgement) = log
log_after log LogCommand = log
log_after log BlankCommand = log

-- The lines of the items in order, over this log; after a fault its line, and nothing more.
unfoldable pub output_from : Judging → Log → List Item → List ℕ
output_from judging log [] = []
output_from judging log (Spoken command ∷ items) = command_text judging log command ++ output_from judging (log_after log command) items
output_from judging log (BadAt line ∷ items) = bad_line line
output_from judging log (UnendedAt line ∷ items) = unended_line line

-- The output of a script.
unfoldable pub output_of : Judging → List ℕ → List ℕ
output_of judging bytes = output_from judging [] (script_of bytes)

-- Some item is a fault.
unfoldable pub has_fault : List Item → Bool
has_fault [] = false
has_fault (Spoken command ∷ items) = has_fault items
has_fault (BadAt line ∷ items) = true
has_fault (UnendedAt line ∷ items) = true
