-- The log that a script leaves, and of which modules its lines tell (this profile).
use Rattle.std.specs.Prelude.{ℕ, Bool, List, [], ◌∷◌, ◌++◌, ◌-◌, ◌&&◌, length, take, fold, filter_map, nat_eq, nat_le, Option, Some, None, if◌then◌else◌}
use Rattle.edit_log_meaning.specs.Log.{Edit, Log, library_of, version_of}
use Rattle.module_graph_meaning.specs.Walks.{Dependencies, is_grounded}
use Rattle.run_meaning.specs.ScriptCommands.{Command, EditCommand, ReportCommand, CheckCommand, FlatCommand, CarryCommand, LogCommand, BlankCommand}
use Rattle.run_meaning.specs.ScriptItems.{Item, Spoken, BadAt, UnendedAt, script_of}
use Rattle.run_meaning.specs.ScriptOutput.{log_after, command_text, command_told}
use Rattle.run_meaning.specs.Judging.{Judging}
use Rattle.run_meaning.specs.Parts.{Telling}

-- The command of an item, if it is no fault.
abbrev pub command_of : Item → Option Command
command_of (Spoken command) = Some command
command_of (BadAt line) = None
command_of (UnendedAt line) = None

-- The commands of a script, in order.
abbrev pub commands_of : List Item → List Command
commands_of items = filter_map command_of items

-- The edit that a command asks for, if it asks for one.
abbrev pub edit_of : Command → Option Edit
edit_of (EditCommand edit) = Some edit
edit_of (ReportCommand name) = None
edit_of CheckCommand = None
edit_of (FlatCommand name) = None
edit_of (CarryCommand view judgement) = None
edit_of LogCommand = None
edit_of BlankCommand = None

-- The edits that commands ask for, in order, whether they are made or not.
abbrev pub edits_of : List Command → List Edit
edits_of commands = filter_map edit_of commands

-- The log after these commands.
abbrev pub log_through : Log → List Command → Log
log_through log commands = fold log_after log commands

-- The log that a script leaves: the edits that it makes, in order.
unfoldable pub script_log : List ℕ → Log
script_log bytes = log_through [] (commands_of (script_of bytes))

-- What the lines of these commands tell, over this log.
unfoldable pub told_from : Judging → Log → List Command → List Telling
told_from judging log [] = []
told_from judging log (command ∷ commands) = command_told judging log command ++ told_from judging (log_after log command) commands

-- What the lines of a script tell, in order.
unfoldable pub script_told : Judging → List ℕ → List Telling
script_told judging bytes = told_from judging [] (commands_of (script_of bytes))

-- What those of these commands tell whose lines begin within the first so many bytes.
unfoldable pub told_within : Judging → ℕ → Log → List Command → List Telling
told_within judging count log [] = []
told_within judging count log (command ∷ commands) =
    if nat_eq count 0 then []
    else command_told judging log command ++ told_within judging (count - length (command_text judging log command)) (log_after log command) commands

-- What is told of a script where so many bytes of its output are written.
abbrev pub told_by : Judging → ℕ → List ℕ → List Telling
told_by judging count bytes = told_within judging count [] (commands_of (script_of bytes))

-- The version is one of the log, and the name is present and grounded in the library of that version.
abbrev pub is_told_of : Dependencies → Log → Telling → Bool
is_told_of dependencies log telling =
    nat_le telling.version (version_of log) && is_grounded dependencies (library_of (take telling.version log)) telling.name
