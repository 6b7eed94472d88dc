-- Which command of a script a command of the code is.
use Rattle.std.specs.Prelude.{◌≤◌, suc, length, Some, None}
use Rattle.std.specs.declared.option.Option.{Option}
use Rattle.edit_log_meaning.specs.Log.{Put, Drop}
use Rattle.run_meaning.specs.ScriptCommands as meant
use Rattle.name_meaning.specs.Limits.{text_limit, line_limit}
use Rattle.script_reader.specs.declared.command.Command.{Command}
use Rattle.script_reader.specs.declared.command.Command.TheVariants as commands

-- The command that was given; the end of a script is none.
abbrev pub read_command : Command → Option meant.Command
read_command (commands.Put name text) = Some (meant.EditCommand (Put name text))
read_command (commands.Drop name) = Some (meant.EditCommand (Drop name))
read_command (commands.Report name) = Some (meant.ReportCommand name)
read_command commands.Check = Some meant.CheckCommand
read_command (commands.Flat name) = Some (meant.FlatCommand name)
read_command (commands.Carry view text) = Some (meant.CarryCommand view text)
read_command commands.Log = Some meant.LogCommand
read_command commands.Blank = Some meant.BlankCommand
read_command commands.End = None

-- The names and the judgement of a command have no more bytes than a line may have, and a text that is put no more than
-- are kept of it.
abbrev pub IsShort : Command → Type 0
IsShort (commands.Put name text) = (length name ≤ line_limit) × (length text ≤ suc text_limit)
IsShort (commands.Drop name) = length name ≤ line_limit
IsShort (commands.Report name) = length name ≤ line_limit
IsShort commands.Check = Unit {0}
IsShort (commands.Flat name) = length name ≤ line_limit
IsShort (commands.Carry view text) = (length view ≤ line_limit) × (length text ≤ line_limit)
IsShort commands.Log = Unit {0}
IsShort commands.Blank = Unit {0}
IsShort commands.End = Unit {0}
