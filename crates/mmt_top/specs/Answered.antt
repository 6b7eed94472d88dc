-- How a command is answered (this profile).
use Rattle.std.specs.Prelude.{◌≡◌, ℕ, List, Option, Some, None, Result, Ok, Err}
use Rattle.mmt_outside.specs.Bytes.{Taken, appended, TookPrefix}
use Rattle.edit_log_meaning.specs.Log.{Log}
use Rattle.board_meaning.specs.Events.{History}
use Rattle.run_meaning.specs.ScriptCommands.{Command}
use Rattle.run_meaning.specs.ScriptOutput.{command_text, log_after}
use Rattle.judged_meaning.specs.JudgingByRules.{rules}
use Rattle.mmt_top.specs.Plays.{Plays, MayPlay}
use Rattle.run_status.specs.declared.status.Status.{Status}
use Rattle.run_status.specs.declared.status.Status.TheVariants.{Done, Refused, Usage, ReadFault, WriteFault, Memory, ScriptFault}

-- The command was played, this is the log that it leaves, and these are its lines.
pub record IsAnswered (command : Command) (log next : Log) (before after : History) (lines : List ℕ) : Type 0 where
  pub plays : Plays command before after
  pub logged : next ≡ log_after log command
  pub printed : lines ≡ command_text rules log command

-- The command was answered, or was begun.
abbrev pub Answers : {E : Type 0} → Command → Log → Log → History → History → Result (List ℕ) E → Type 0
Answers command log next before after (Ok lines) = IsAnswered command log next before after lines
Answers command log next before after (Err fault) = MayPlay command before after

-- The command was played, this is the log that it leaves, and its lines were written.
pub record Spoke (before now : Option Taken) (command : Command) (log next : Log) (first second : History) : Type 0 where
  pub plays : Plays command first second
  pub logged : next ≡ log_after log command
  pub took : now ≡ appended before (command_text rules log command)

-- The session ends at the command: for want of memory, with the command begun and nothing written; or because the sink failed,
-- with the command played and a first part of its lines written.
abbrev pub Stops : Status → Option Taken → Option Taken → Command → Log → History → History → Type 0
Stops Done before now command log first second = ⊥
Stops Refused before now command log first second = ⊥
Stops Usage before now command log first second = ⊥
Stops ReadFault before now command log first second = ⊥
Stops WriteFault before now command log first second = TookPrefix before now (command_text rules log command) × Plays command first second
Stops Memory before now command log first second = (now ≡ before) × MayPlay command first second
Stops ScriptFault before now command log first second = ⊥

-- The session goes on after the command, or ends at it.
abbrev pub SpokenTells : Option Status → Option Taken → Option Taken → Command → Log → Log → History → History → Type 0
SpokenTells None before now command log next first second = Spoke before now command log next first second
SpokenTells (Some status) before now command log next first second = Stops status before now command log first second
