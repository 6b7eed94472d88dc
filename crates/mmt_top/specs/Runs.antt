-- How a run of the program ends.
use Rattle.std.specs.Prelude.{◌≡◌, ◌≤◌, ℕ, Bool, true, false, List, [], Option, Some, None, IfSome}
use Rattle.mmt_outside.specs.Bytes.{Taken, appended, flushed, ReadPrefix, TookPrefix}
use Rattle.mmt_outside.specs.Faults.{Rose}
use Rattle.mmt_outside.specs.Files.{Files}
use Rattle.printing_meaning.specs.Printed.{usage_line}
use Rattle.run_meaning.specs.ScriptItems.{script_of}
use Rattle.run_meaning.specs.ScriptOutput.{has_fault}
use Rattle.command_words_meaning.specs.WordLists.{Task, Play, CheckFolder, Generate, Run}
use Rattle.judged_meaning.specs.Outputs.{generate_output, play_output}
use Rattle.run_status.specs.Flushed.{FlushesAt}
use Rattle.run_status.specs.Taking.{TookOn}
use Rattle.folder_front.specs.Checked.{IsCheckStatus}
use Rattle.run_status.specs.declared.status.Status.{Status}
use Rattle.run_status.specs.declared.status.Status.TheVariants.{Done, Refused, Usage, ReadFault, WriteFault, Memory, ScriptFault}
use Rattle.mmt_top.specs.FolderChecks.{PrintsFolder}
use Rattle.mmt_top.specs.GeneratorRuns.{EndsAs as GeneratorEndsAs, IsGeneratorStatus}
use Rattle.mmt_top.specs.Session.{EndsAs, IsSessionStatus}

-- The usage line was written and flushed; or the sink failed, and a first part of it was written.
abbrev pub IsUsage : Status → Option Taken → Option Taken → Type 0
IsUsage Done before now = ⊥
IsUsage Refused before now = ⊥
IsUsage Usage before now = now ≡ flushed (appended before usage_line)
IsUsage ReadFault before now = ⊥
IsUsage WriteFault before now = TookPrefix before now usage_line
IsUsage Memory before now = ⊥
IsUsage ScriptFault before now = ⊥

-- A task answers these statuses alone.
abbrev pub IsStatusOf : Task → Status → Type 0
IsStatusOf Play status = IsSessionStatus status
IsStatusOf (CheckFolder folder) status = IsCheckStatus status
IsStatusOf (Generate start modules edits) status = IsGeneratorStatus status

-- What a task prints, by so many workers, where the source and the folder tell what they hold.
abbrev pub Prints : Task → ℕ → Status → Option (List ℕ) → Option Files → Option Taken → Option Taken → Type 0
Prints Play workers status left files before now = IfSome left (λ bytes. EndsAs status before now (play_output bytes) (has_fault (script_of bytes)))
Prints (CheckFolder folder) workers status left files before now = IfSome files (PrintsFolder status before now folder)
Prints (Generate start modules edits) workers status left files before now = GeneratorEndsAs status before now (generate_output start modules edits workers)

-- A fault of reading is one of the source, or of the folder.
abbrev pub ReadHasCauseOf : Task → ℕ → ℕ → ℕ → ℕ → Type 0
ReadHasCauseOf Play reads reads_after calls calls_after = Rose reads reads_after
ReadHasCauseOf (CheckFolder folder) reads reads_after calls calls_after = Rose calls calls_after
ReadHasCauseOf (Generate start modules edits) reads reads_after calls calls_after = ⊥

abbrev pub ReadHasCause : Option Run → ℕ → ℕ → ℕ → ℕ → Type 0
ReadHasCause None reads reads_after calls calls_after = ⊥
ReadHasCause (Some run) reads reads_after calls calls_after = ReadHasCauseOf run.task reads reads_after calls calls_after

abbrev pub plays : Task → Bool
plays Play = true
plays (CheckFolder folder) = false
plays (Generate start modules edits) = false

abbrev pub checks : Task → Bool
checks Play = false
checks (CheckFolder folder) = true
checks (Generate start modules edits) = false

-- A script is played.
abbrev pub is_play : Option Run → Bool
is_play None = false
is_play (Some run) = plays run.task

-- A folder is checked.
abbrev pub is_check : Option Run → Bool
is_check None = false
is_check (Some run) = checks run.task

-- What a run that was asked for does: how it ends, what becomes of the source's bytes and its count of faults, of the folder's files and
-- its count, and of the sink's bytes and its count.
pub record Does (run : Run) (status : Status) (left rest : Option (List ℕ)) (reads reads_after : ℕ) (files files_after : Option Files) (calls calls_after : ℕ)
    (before now : Option Taken) (writes writes_after : ℕ) : Type 0 where
  pub answers : IsStatusOf run.task status
  pub output : Prints run.task run.workers status left files before now
  pub part_read : ReadPrefix left rest
  pub read_all : plays run.task ≡ true → status ≡ Done → IfSome left (λ bytes. rest ≡ Some [])
  pub same : files_after ≡ files
  pub flush : FlushesAt status now
  pub read : status ≡ ReadFault → ReadHasCauseOf run.task reads reads_after calls calls_after
  pub write : status ≡ WriteFault → Rose writes writes_after
  pub source_later : reads ≤ reads_after
  pub folder_later : calls ≤ calls_after
  pub sink_later : writes ≤ writes_after
  pub took : TookOn before now
