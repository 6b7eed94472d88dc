-- Laws of the lists of words (this profile).
use Rattle.std.specs.Prelude.{◌≡◌, ◌⊎◌, ℕ, ◌-◌, ◌^◌, ◌≤◌, true, List, Some, ⊤}
use Rattle.command_words_meaning.specs.WordLists.{Task, Play, CheckFolder, Generate, Run, is_folder, run_of}
use Rattle.command_words_meaning.specs.WordAnswers.{Asks, usage, Begins, Ends, words_outcome}

-- No accepted list of words asks for more than 16 workers.
abbrev pub WorkersAreBounded : Type 0
WorkersAreBounded = (words : List (List ℕ)) (run : Run) → run_of words ≡ Some run → run.workers ≤ 16

-- The task is within its ranges: a folder is not empty and does not begin with `-`, and each number of the generator
-- lies within its bounds.
abbrev pub IsInRange : Task → Type 0
IsInRange Play = ⊤
IsInRange (CheckFolder folder) = is_folder folder ≡ true
IsInRange (Generate start modules edits) = (start ≤ 2 ^ 31 - 1) × (1 ≤ modules) × (modules ≤ 1000) × (edits ≤ 1000)

-- So is the task of each accepted list of words.
abbrev pub TasksAreInRange : Type 0
TasksAreInRange = (words : List (List ℕ)) (run : Run) → run_of words ≡ Some run → IsInRange run.task

-- The words ask for this run and for no other, and it begins.
pub record IsBegun (words : List (List ℕ)) : Type 0 where
  pub run : Run
  pub asks : Asks words run
  pub only : (other : Run) → Asks words other → other ≡ run
  pub begins : words_outcome words ≡ Begins run

-- The words ask for no run, and are answered by exactly the usage line.
pub record IsAnsweredByUsage (words : List (List ℕ)) : Type 0 where
  pub none : (run : Run) → Asks words run → ⊥
  pub ends : words_outcome words ≡ Ends usage

-- Each list of words is either accepted, as one command with one number of workers, or answered by the usage line.
abbrev pub WordsAreAnswered : Type 0
WordsAreAnswered = (words : List (List ℕ)) → IsBegun words ⊎ IsAnsweredByUsage words

-- A list of words is accepted, for this run, exactly where it asks for it.
abbrev pub RunsAreAsked : Type 0
RunsAreAsked = (words : List (List ℕ)) (run : Run) → (run_of words ≡ Some run → Asks words run) × (Asks words run → run_of words ≡ Some run)
