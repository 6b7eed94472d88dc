-- The tasks of accepted lists of words are within their ranges.
use Rattle.std.proofs.Common.{◌≡◌, ℕ, ◌-◌, ◌^◌, ◌≤◌, Bool, true, false, cond, List, [], ◌∷◌, refl, subst, arith}
use Rattle.std.specs.Prelude.{Option, Some, None, nat_le, ◌&&◌, option_map, option_and_then, codes}
use Rattle.std.specs.Str.{bytes_eq}
use Rattle.std.specs.Str.Parse.{digits_value}
use Rattle.std.proofs.lemmas.Bool.Decides.{nat_tests}
use Rattle.printing_meaning.specs.Numbers.{is_number}
use Rattle.command_words_meaning.specs.WordLists.{Task, Play, CheckFolder, Generate, number_between, is_folder, play_of, check_of, generate_by, generate_of, task_of}
use Rattle.command_words_laws.specs.WordLaws.{IsInRange, TasksAreInRange}
use Rattle.command_words_laws.proofs.WordsAsked.{accepted_asks}

bounds : (number : Bool) (least value greatest n : ℕ) → cond ((number && nat_le least value) && nat_le value greatest) (Some value) None ≡ Some n → (least ≤ n) × (n ≤ greatest)
bounds true least value greatest n e = by_tests (nat_le least value) (nat_le value greatest) refl refl e
  where
    by_tests : (b c : Bool) → nat_le least value ≡ b → nat_le value greatest ≡ c → cond (b && c) (Some value) None ≡ Some n → (least ≤ n) × (n ≤ greatest)
    by_tests true true p q h =
        let same : value ≡ n = cc in let low : least ≤ value = grind (arith, nat_tests) in let high : value ≤ greatest = grind (arith, nat_tests) in
        subst (λ m. (least ≤ m) × (m ≤ greatest)) same (low, high)
    by_tests true false p q h = absurd cc
    by_tests false c p q h = absurd cc
bounds false least value greatest n e = absurd cc

number_bounds : (least greatest : ℕ) (word : List ℕ) (n : ℕ) → number_between least greatest word ≡ Some n → (least ≤ n) × (n ≤ greatest)
number_bounds least greatest word n e = bounds (is_number word) least (digits_value 10 word) greatest n e

generate_in_range : (start modules edits : List ℕ) (task : Task) → generate_by start modules edits ≡ Some task → IsInRange task
generate_in_range start modules edits task e =
    by_numbers (number_between 0 (2 ^ 31 - 1) start) (number_between 1 1000 modules) (number_between 0 1000 edits) refl refl refl e
  where
    by_numbers : (s m t : Option ℕ) → number_between 0 (2 ^ 31 - 1) start ≡ s → number_between 1 1000 modules ≡ m → number_between 0 1000 edits ≡ t
        → option_and_then (λ (first : ℕ). option_and_then (λ (second : ℕ). option_map (λ (third : ℕ). Generate first second third) t) m) s ≡ Some task → IsInRange task
    by_numbers None m t p q r h = absurd cc
    by_numbers (Some a) None t p q r h = absurd cc
    by_numbers (Some a) (Some b) None p q r h = absurd cc
    by_numbers (Some a) (Some b) (Some c) p q r h =
        let same : Generate a b c ≡ task = some_task h in
        let first = number_bounds 0 (2 ^ 31 - 1) start a p in
        let second = number_bounds 1 1000 modules b q in
        let third = number_bounds 0 1000 edits c r in
        subst IsInRange same (first.1, second.0, second.1, third.1)
      where
        some_task : Some (Generate a b c) ≡ Some task → Generate a b c ≡ task
        some_task x = cc

check_in_range : (words : List (List ℕ)) (task : Task) → check_of words ≡ Some task → IsInRange task
check_in_range [] task e = absurd cc
check_in_range (folder ∷ []) task e = by_folder (is_folder folder) refl e
  where
    by_folder : (b : Bool) → is_folder folder ≡ b → cond b (Some (CheckFolder folder)) None ≡ Some task → IsInRange task
    by_folder true p h = subst IsInRange (some_task h) p
      where
        some_task : Some (CheckFolder folder) ≡ Some task → CheckFolder folder ≡ task
        some_task x = cc
    by_folder false p h = absurd cc
check_in_range (folder ∷ second ∷ words) task e = absurd cc

play_in_range : (words : List (List ℕ)) (task : Task) → play_of words ≡ Some task → IsInRange task
play_in_range [] task e = subst IsInRange (some_task e) tt
  where
    some_task : Some Play ≡ Some task → Play ≡ task
    some_task x = cc
play_in_range (word ∷ words) task e = absurd cc

generated_in_range : (words : List (List ℕ)) (task : Task) → generate_of words ≡ Some task → IsInRange task
generated_in_range [] task e = absurd cc
generated_in_range (start ∷ []) task e = absurd cc
generated_in_range (start ∷ modules ∷ []) task e = absurd cc
generated_in_range (start ∷ modules ∷ edits ∷ []) task e = generate_in_range start modules edits task e
generated_in_range (start ∷ modules ∷ edits ∷ fourth ∷ words) task e = absurd cc

task_in_range : (word : List ℕ) (words : List (List ℕ)) (task : Task) → task_of word words ≡ Some task → IsInRange task
task_in_range word words task e = by_word (bytes_eq word (codes "play")) (bytes_eq word (codes "check")) (bytes_eq word (codes "gen")) e
  where
    by_word : (a b c : Bool) → cond a (play_of words) (cond b (check_of words) (cond c (generate_of words) None)) ≡ Some task → IsInRange task
    by_word true b c h = play_in_range words task h
    by_word false true c h = check_in_range words task h
    by_word false false true h = generated_in_range words task h
    by_word false false false h = absurd cc

pub tasks_are_in_range : TasksAreInRange
tasks_are_in_range words run e = let asks = accepted_asks words run e in task_in_range asks.word asks.rest run.task asks.task
