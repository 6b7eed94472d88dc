-- What a list of words comes to: the run that it asks for, or the usage line (this profile).
use Rattle.std.specs.Prelude.{◌≡◌, ◌⊎◌, ℕ, List, [], ◌∷◌, ◌++◌, Option, Some, None}
use Rattle.printing_meaning.specs.Printed.{usage_line}
use Rattle.command_words_meaning.specs.WordLists.{Run, default_workers, worker_part, task_of, run_of}

-- No words are no worker part, and leave the number of workers that is taken without one; other words are a worker part
-- for so many workers.
abbrev pub IsPart : List (List ℕ) → ℕ → Type 0
IsPart [] workers = workers ≡ default_workers
IsPart (word ∷ words) workers = worker_part (word ∷ words) ≡ Some workers

-- The words ask for this run: they are those of a command, with at most one worker part, which stands directly behind the
-- command's first word or at the end.
pub record Asks (words : List (List ℕ)) (run : Run) : Type 0 where
  pub word : List ℕ
  pub part : List (List ℕ)
  pub rest : List (List ℕ)
  pub task : task_of word rest ≡ Some run.task
  pub workers : IsPart part run.workers
  pub stands : (words ≡ word ∷ (part ++ rest)) ⊎ (words ≡ word ∷ (rest ++ part))

-- A run that ends at once, without reading anything: where the sink, which is the standard output in the program, does not
-- fail, these bytes and no others are written to it and flushed, and the status is the one with this number.
pub record Ending : Type 0 where
  pub written : List ℕ
  pub status : ℕ

-- How words are answered that are refused: by the usage line, and the status Usage.
abbrev pub usage : Ending
usage = record { written = usage_line; status = 2 }

-- What words come to: a run begins, or ends at once.
pub data Outcome : Type 0 where
  Begins : Run → Outcome
  Ends : Ending → Outcome

abbrev pub outcome_of : Option Run → Outcome
outcome_of None = Ends usage
outcome_of (Some run) = Begins run

-- An accepted list begins the run that it asks for, and any other list is answered by the usage line.
unfoldable pub words_outcome : List (List ℕ) → Outcome
words_outcome words = outcome_of (run_of words)
