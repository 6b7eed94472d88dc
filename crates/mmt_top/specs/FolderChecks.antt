-- How a check of a folder ends (this profile).
use Rattle.std.specs.Prelude.{ℕ, List, Option}
use Rattle.mmt_outside.specs.Bytes.{Taken}
use Rattle.mmt_outside.specs.Files.{Files}
use Rattle.board_meaning.specs.Events.{History, log_of}
use Rattle.run_meaning.specs.Files.{File, load}
use Rattle.run_meaning.specs.Folders.{has_refusal}
use Rattle.judged_meaning.specs.JudgingByRules.{rules}
use Rattle.judged_meaning.specs.Outputs.{check_output}
use Rattle.folder_load.specs.Loads.{AreFilesOf}
use Rattle.folder_front.specs.Checked.{BacksWritten, EditsAre, EndsAs, IsListed}
use Rattle.run_status.specs.declared.status.Status.{Status}

-- What is printed of a folder of which these files are told: the output of any list of just its files. There is such a list, unless
-- listing them failed or memory was wanting.
pub record PrintsFolder (status : Status) (before now : Option Taken) (folder : List ℕ) (told : Files) : Type 0 where
  pub listed : IsListed status told folder
  pub output : (files : List File) → AreFilesOf told folder files → EndsAs status before now (check_output files) (has_refusal rules files)

-- The board that a check of it leaves.
pub record LeavesFolder (status : Status) (before now : Option Taken) (told : Files) (folder : List ℕ) (last : History) : Type 0 where
  pub edits : (files : List File) → AreFilesOf told folder files → EditsAre status (load files).log (log_of last)
  pub backs : (files : List File) → AreFilesOf told folder files → BacksWritten before now files last
