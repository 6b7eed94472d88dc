-- What the reader takes a line to say, as the definitions say it.
use Rattle.std.specs.Prelude.{◌≤◌, length, Some, option_map}
use Rattle.std.specs.declared.option.Option.{Option}
use Rattle.run_meaning.specs.ScriptCommands as meant
use Rattle.name_meaning.specs.Limits.{line_limit}
use Rattle.script_reader.specs.Commands.{read_command, IsShort}
use Rattle.script_reader.specs.declared.said.Said.{Said}
use Rattle.script_reader.specs.declared.said.Said.TheVariants.{Puts, Says, Wrong}

-- No line says that the script ends.
abbrev pub read_said : Said → Option meant.Said
read_said (Puts name) = Some (meant.Puts name)
read_said (Says command) = option_map meant.Says (read_command command)
read_said Wrong = Some meant.Wrong

-- The names in what a line says, and a judgement, are no longer than a line may be.
abbrev pub IsWithin : Said → Type 0
IsWithin (Puts name) = length name ≤ line_limit
IsWithin (Says command) = IsShort command
IsWithin Wrong = Unit {0}
