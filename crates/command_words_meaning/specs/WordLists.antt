-- The lists of words that are accepted (this profile).
use Rattle.std.specs.Prelude.{ℕ, Bool, false, List, [], ◌∷◌, ◌-◌, ◌==◌, ◌^◌, ◌&&◌, not, length, take, drop, nat_eq, nat_le, Option, Some, None, is_some, option_map, option_and_then, if◌then◌else◌, codes}
use Rattle.std.specs.List.{starts_with}
use Rattle.std.specs.Str.{bytes_eq}
use Rattle.std.specs.Str.Parse.{digits_value}
use Rattle.printing_meaning.specs.Numbers.{is_number}

-- A script is played; the modules of a folder are checked; or the generator makes so many modules and edits, beginning
-- with this number.
pub data Task : Type 0 where
  Play : Task
  CheckFolder : (folder : List ℕ) → Task
  Generate : (start modules edits : ℕ) → Task

-- What is run, by so many workers.
pub record Run : Type 0 where
  pub task : Task
  pub workers : ℕ

-- The number of workers where the words name none.
abbrev pub default_workers : ℕ
default_workers = 4

-- The number that the word writes, where it is one from the first to the second.
abbrev pub number_between : ℕ → ℕ → List ℕ → Option ℕ
number_between least greatest word =
    if is_number word && nat_le least (digits_value 10 word) && nat_le (digits_value 10 word) greatest then Some (digits_value 10 word) else None

abbrev pub workers_of : List ℕ → Option ℕ
workers_of word = number_between 0 16 word

-- The words are a worker part, `--workers N` or `--workers=N`, for so many workers.
abbrev pub worker_part : List (List ℕ) → Option ℕ
worker_part [] = None
worker_part (word ∷ []) =
    if starts_with nat_eq word (codes "--workers=") then workers_of (drop 10 word) else None
worker_part (word ∷ number ∷ []) = if bytes_eq word (codes "--workers") then workers_of number else None
worker_part (word ∷ number ∷ third ∷ words) = None

-- The word is a folder: it is not empty, and does not begin with `-`.
abbrev pub is_folder : List ℕ → Bool
is_folder [] = false
is_folder (byte ∷ bytes) = not (byte == 45)

abbrev pub play_of : List (List ℕ) → Option Task
play_of [] = Some Play
play_of (word ∷ words) = None

abbrev pub check_of : List (List ℕ) → Option Task
check_of [] = None
check_of (folder ∷ []) = if is_folder folder then Some (CheckFolder folder) else None
check_of (folder ∷ second ∷ words) = None

-- START from 0 to 2^31 - 1, MODULES from 1 to 1,000 and EDITS from 0 to 1,000.
abbrev pub generate_by : List ℕ → List ℕ → List ℕ → Option Task
generate_by start modules edits =
    option_and_then (λ (first : ℕ). option_and_then (λ (second : ℕ). option_map (λ (third : ℕ). Generate first second third)
    (number_between 0 1000 edits)) (number_between 1 1000 modules)) (number_between 0 (2 ^ 31 - 1) start)

abbrev pub generate_of : List (List ℕ) → Option Task
generate_of [] = None
generate_of (start ∷ []) = None
generate_of (start ∷ modules ∷ []) = None
generate_of (start ∷ modules ∷ edits ∷ []) = generate_by start modules edits
generate_of (start ∷ modules ∷ edits ∷ fourth ∷ words) = None

-- The task of a command's first word and the words behind it.
abbrev pub task_of : List ℕ → List (List ℕ) → Option Task
task_of word words =
    if bytes_eq word (codes "play") then play_of words
    else (if bytes_eq word (codes "check") then check_of words
    else (if bytes_eq word (codes "gen") then generate_of words else None))

-- What is run where these are the command's own words behind its first one, and this is its worker part.
abbrev pub with_part : List ℕ → List (List ℕ) → List (List ℕ) → Option Run
with_part word words part =
    option_and_then (λ (task : Task). option_map (λ (workers : ℕ). record { task = task; workers = workers }) (worker_part part)) (task_of word words)

abbrev pub without_part : List ℕ → List (List ℕ) → Option Run
without_part word words = option_map (λ (task : Task). record { task = task; workers = default_workers }) (task_of word words)

-- A worker part of these many words, or of fewer where there are fewer, stands directly behind the first word.
abbrev pub part_in_front : List ℕ → List (List ℕ) → ℕ → Option Run
part_in_front word words count = with_part word (drop count words) (take count words)

-- Such a worker part stands at the end.
abbrev pub part_at_end : List ℕ → List (List ℕ) → ℕ → Option Run
part_at_end word words count = with_part word (take (length words - count) words) (drop (length words - count) words)

abbrev pub first_of : Option Run → Option Run → Option Run
first_of None second = second
first_of (Some first) second = Some first

-- What the words ask for, where they are an accepted list: a command with at most one worker part, directly behind its
-- first word or at the end.
unfoldable pub run_of : List (List ℕ) → Option Run
run_of [] = None
run_of (word ∷ words) =
    first_of (without_part word words)
    (first_of (part_in_front word words 1) (first_of (part_in_front word words 2) (first_of (part_at_end word words 1) (part_at_end word words 2))))

-- The words are an accepted list. Any other list prints the usage line.
abbrev pub is_accepted : List (List ℕ) → Bool
is_accepted words = is_some (run_of words)
