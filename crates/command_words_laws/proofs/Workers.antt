-- No accepted list of words asks for more than 16 workers.
use Rattle.std.proofs.Common.{◌≡◌, ℕ, ◌-◌, ◌≤◌, Bool, true, false, cond, List, [], ◌∷◌, length, take, drop, refl, subst, arith}
use Rattle.std.specs.Prelude.{Option, Some, None, nat_eq, nat_le, ◌&&◌, option_map, option_and_then, codes}
use Rattle.std.specs.List.{starts_with}
use Rattle.std.specs.Str.{bytes_eq}
use Rattle.std.specs.Str.Parse.{digits_value}
use Rattle.std.proofs.lemmas.Bool.Decides.{nat_tests}
use Rattle.printing_meaning.specs.Numbers.{is_number}
use Rattle.command_words_meaning.specs.WordLists.{Task, Run, workers_of, worker_part, task_of, with_part, without_part, part_in_front, part_at_end, first_of, run_of}

between : (a b : Bool) (value greatest : ℕ) (n : ℕ) → cond ((a && b) && nat_le value greatest) (Some value) None ≡ Some n → n ≤ greatest
between true true value greatest n e = by_test (nat_le value greatest) refl e
  where
    by_test : (c : Bool) → nat_le value greatest ≡ c → cond c (Some value) None ≡ Some n → n ≤ greatest
    by_test true t h = let same : value ≡ n = cc in let le : value ≤ greatest = grind (arith, nat_tests) in subst (λ m. m ≤ greatest) same le
    by_test false t h = absurd cc
between true false value greatest n e = absurd cc
between false b value greatest n e = absurd cc

workers_bounded : (word : List ℕ) (n : ℕ) → workers_of word ≡ Some n → n ≤ 16
workers_bounded word n e = between (is_number word) (nat_le 0 (digits_value 10 word)) (digits_value 10 word) 16 n e

tested : (b : Bool) (word : List ℕ) (n : ℕ) → cond b (workers_of word) None ≡ Some n → n ≤ 16
tested true word n e = workers_bounded word n e
tested false word n e = absurd cc

part_bounded : (part : List (List ℕ)) (n : ℕ) → worker_part part ≡ Some n → n ≤ 16
part_bounded [] n e = absurd cc
part_bounded (word ∷ []) n e = tested (starts_with nat_eq word (codes "--workers=")) (drop 10 word) n e
part_bounded (word ∷ number ∷ []) n e = tested (bytes_eq word (codes "--workers")) number n e
part_bounded (word ∷ number ∷ third ∷ words) n e = absurd cc

with_bounded : (word : List ℕ) (words part : List (List ℕ)) (run : Run) → with_part word words part ≡ Some run → run.workers ≤ 16
with_bounded word words part run e = by_task (task_of word words) (worker_part part) refl e
  where
    by_task : (task : Option Task) (workers : Option ℕ) → worker_part part ≡ workers
        → option_and_then (λ (t : Task). option_map (λ (n : ℕ). record { task = t; workers = n }) workers) task ≡ Some run → run.workers ≤ 16
    by_task None workers p h = absurd cc
    by_task (Some task) None p h = absurd cc
    by_task (Some task) (Some n) p h =
        let same : n ≡ run.workers = some_workers h in subst (λ m. m ≤ 16) same (part_bounded part n p)
      where
        some_workers : Some (record { task = task; workers = n }) ≡ Some run → n ≡ run.workers
        some_workers q = cc

without_bounded : (word : List ℕ) (words : List (List ℕ)) (run : Run) → without_part word words ≡ Some run → run.workers ≤ 16
without_bounded word words run e = by_task (task_of word words) e
  where
    by_task : (task : Option Task) → option_map (λ (t : Task). record { task = t; workers = 4 }) task ≡ Some run → run.workers ≤ 16
    by_task None h = absurd cc
    by_task (Some task) h = let same : 4 ≡ run.workers = some_workers h in omega arith
      where
        some_workers : Some (record { task = task; workers = 4 }) ≡ Some run → 4 ≡ run.workers
        some_workers q = cc

first_bounded : (first second : Option Run) (run : Run) → (first ≡ Some run → run.workers ≤ 16) → (second ≡ Some run → run.workers ≤ 16)
    → first_of first second ≡ Some run → run.workers ≤ 16
first_bounded None second run a b e = b e
first_bounded (Some first) second run a b e = a e

pub workers_are_bounded : (words : List (List ℕ)) (run : Run) → run_of words ≡ Some run → run.workers ≤ 16
unfolding run_of
workers_are_bounded [] run e = absurd cc
workers_are_bounded (word ∷ words) run e =
    first_bounded (without_part word words) _ run (without_bounded word words run)
    (first_bounded (part_in_front word words 1) _ run (with_bounded word (drop 1 words) (take 1 words) run)
    (first_bounded (part_in_front word words 2) _ run (with_bounded word (drop 2 words) (take 2 words) run)
    (first_bounded (part_at_end word words 1) (part_at_end word words 2) run
    (with_bounded word (take (length words - 1) words) (drop (length words - 1) words) run)
    (with_bounded word (take (length words - 2) words) (drop (length words - 2) words) run)))) e
