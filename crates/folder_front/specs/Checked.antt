-- How the check of a folder ends, and which board it leaves (this profile).
use Rattle.std.specs.Prelude.{◌≡◌, ◌≤◌, ◌-◌, ℕ, Bool, true, false, List, [], ◌∷◌, ◌++◌, length, nat_eq, IfSome, Option, if◌then◌else◌}
use Rattle.std.specs.List.{cons_option}
use Rattle.mmt_outside.specs.Bytes.{Taken, appended, flushed, TookPrefix}
use Rattle.mmt_outside.specs.Faults.{Rose}
use Rattle.mmt_outside.specs.Files.{Files}
use Rattle.edit_log_meaning.specs.Log.{Log}
use Rattle.text_meaning.specs.Dependencies.{dependencies}
use Rattle.board_meaning.specs.Events.{History, log_of}
use Rattle.board_meaning.specs.Legal.{IsLegal}
use Rattle.board_meaning.specs.Ready.{is_closed}
use Rattle.run_meaning.specs.Judging.{Judging}
use Rattle.run_meaning.specs.Parts.{Part, Telling}
use Rattle.run_meaning.specs.Backing.{AreBacked}
use Rattle.run_meaning.specs.Files.{File, load}
use Rattle.run_meaning.specs.Folders.{folder_parts, has_refusal}
use Rattle.judged_meaning.specs.JudgingByRules.{rules}
use Rattle.judged_meaning.specs.Outputs.{check_output}
use Rattle.folder_load.specs.Loads.{AreFilesOf}
use Rattle.run_status.specs.Flushed.{FlushesAt}
use Rattle.run_status.specs.Taking.{TookOn}
use Rattle.run_status.specs.declared.status.Status.{Status}
use Rattle.run_status.specs.declared.status.Status.TheVariants.{Done, Refused, Usage, ReadFault, WriteFault, Memory, ScriptFault}

-- What those of these parts tell whose texts begin within the first so many bytes.
unfoldable pub told_within : ℕ → List Part → List Telling
told_within count [] = []
told_within count (part ∷ parts) = if nat_eq count 0 then [] else cons_option part.telling (told_within (count - length part.text) parts)

-- What is told of a folder with these files, where so many bytes of its output are written, is backed.
abbrev pub BacksFolder : Judging → History → ℕ → List File → Type 0
BacksFolder judging history count files = AreBacked judging.dependencies history (told_within count (folder_parts judging files))

-- Where the sink tells its bytes, the history backs what the bytes written tell of the folder.
abbrev pub BacksWritten : Option Taken → Option Taken → List File → History → Type 0
BacksWritten before now files history =
    IfSome before (λ (old : Taken). IfSome now (λ (new : Taken). BacksFolder rules history (length new.bytes - length old.bytes) files))

-- How a check ends by a status, where this is the output and whether a module or a file is refused: at Done none is, at
-- Refused one is, and at both all of the output was written, and flushed; at a fault of the outside and for want of memory a
-- first part of it was written. A check ends with no other status.
abbrev pub EndsAs : Status → Option Taken → Option Taken → List ℕ → Bool → Type 0
EndsAs Done before now output refusal = (refusal ≡ false) × (now ≡ flushed (appended before output))
EndsAs Refused before now output refusal = (refusal ≡ true) × (now ≡ flushed (appended before output))
EndsAs Usage before now output refusal = ⊥
EndsAs ReadFault before now output refusal = TookPrefix before now output
EndsAs WriteFault before now output refusal = TookPrefix before now output
EndsAs Memory before now output refusal = TookPrefix before now output
EndsAs ScriptFault before now output refusal = ⊥

-- A check answers these statuses alone.
abbrev pub IsCheckStatus : Status → Type 0
IsCheckStatus Done = Unit {0}
IsCheckStatus Refused = Unit {0}
IsCheckStatus Usage = ⊥
IsCheckStatus ReadFault = Unit {0}
IsCheckStatus WriteFault = Unit {0}
IsCheckStatus Memory = Unit {0}
IsCheckStatus ScriptFault = ⊥

-- All was written.
abbrev pub IsWholeStatus : Status → Type 0
IsWholeStatus Done = Unit {0}
IsWholeStatus Refused = Unit {0}
IsWholeStatus Usage = ⊥
IsWholeStatus ReadFault = ⊥
IsWholeStatus WriteFault = ⊥
IsWholeStatus Memory = ⊥
IsWholeStatus ScriptFault = ⊥

-- The first log begins the second.
pub record Begins (log whole : Log) : Type 0 where
  pub rest : Log
  pub goes_on : whole ≡ log ++ rest

-- The edits of a board after a check that makes these: at Done and Refused these, at a fault of the outside and for want of
-- memory the first of them.
abbrev pub EditsAre : Status → Log → Log → Type 0
EditsAre Done whole log = log ≡ whole
EditsAre Refused whole log = log ≡ whole
EditsAre Usage whole log = ⊥
EditsAre ReadFault whole log = Begins log whole
EditsAre WriteFault whole log = Begins log whole
EditsAre Memory whole log = Begins log whole
EditsAre ScriptFault whole log = ⊥

-- How a check of a folder with these files ends, and the board that it leaves.
pub record CheckEnds (status : Status) (before now : Option Taken) (files : List File) (last : History) : Type 0 where
  pub output : EndsAs status before now (check_output files) (has_refusal rules files)
  pub edits : EditsAre status (load files).log (log_of last)
  pub backs : BacksWritten before now files last

-- There is a list of the files that are told of the folder. Where listing them failed or memory was wanting, none need be.
abbrev pub HasList : Files → List ℕ → Type 0
HasList told folder = (files : List File) × AreFilesOf told folder files

abbrev pub IsListed : Status → Files → List ℕ → Type 0
IsListed Done told folder = HasList told folder
IsListed Refused told folder = HasList told folder
IsListed Usage told folder = ⊥
IsListed ReadFault told folder = Unit {0}
IsListed WriteFault told folder = HasList told folder
IsListed Memory told folder = Unit {0}
IsListed ScriptFault told folder = ⊥

-- How a check ends of a folder of which these files are told.
pub record FolderEnds (status : Status) (before now : Option Taken) (told : Files) (folder : List ℕ) (last : History) : Type 0 where
  pub listed : IsListed status told folder
  pub each : (files : List File) → AreFilesOf told folder files → CheckEnds status before now files last

-- The check of a folder was led to its end by its front: the history that the front has then seen, what became of the files that
-- are told, of the folder's count of faults, of the sink's bytes and of its count of faults.
pub record IsFolderLed (status : Status) (folder : List ℕ) (files files_after : Option Files) (reads reads_after : ℕ) (before now : Option Taken) (writes writes_after : ℕ) (last : History) : Type 0 where
  pub legal : IsLegal dependencies last
  pub closed : is_closed last ≡ true
  pub ends : IfSome files (λ told. FolderEnds status before now told folder last)
  pub unchanged : files_after ≡ files
  pub answers : IsCheckStatus status
  pub flush : FlushesAt status now
  pub read : status ≡ ReadFault → Rose reads reads_after
  pub write : status ≡ WriteFault → Rose writes writes_after
  pub folder_later : reads ≤ reads_after
  pub sink_later : writes ≤ writes_after
  pub took : TookOn before now
