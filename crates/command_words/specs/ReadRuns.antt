-- Runs that the code holds, as the definition of accepted lists says them.
use Rattle.std.specs.Prelude.{◌≤◌, ◌<◌, ◌^◌, ⊤}
use Rattle.command_words_meaning.specs.WordLists as meant
use Rattle.command_words.specs.declared.task.Task.{Task}
use Rattle.command_words.specs.declared.task.Task.TheVariants.{Play, CheckFolder, Generate}
use Rattle.command_words.specs.declared.run.Run.{Run}

-- A folder is seen as its bytes.
abbrev pub read_task : Task → meant.Task
read_task Play = meant.Play
read_task (CheckFolder folder) = meant.CheckFolder folder.now
read_task (Generate start modules edits) = meant.Generate start modules edits

abbrev pub read_run : Run → meant.Run
read_run run = record { task = read_task run.task; workers = run.workers }

-- The numbers of the generator are within their bounds.
abbrev pub IsInBounds : Task → Type 0
IsInBounds Play = ⊤
IsInBounds (CheckFolder folder) = ⊤
IsInBounds (Generate start modules edits) = (start < 2 ^ 31) × (1 ≤ modules) × (modules ≤ 1000) × (edits ≤ 1000)

-- The run is within its bounds: the number of its workers, and the numbers of its task.
pub record IsWithin (run : Run) : Type 0 where
  pub workers : run.workers ≤ 16
  pub numbers : IsInBounds run.task
