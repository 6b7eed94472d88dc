-- Runs that are found, and that they are within their bounds.
use Rattle.std.proofs.Common.{◌≡◌, ℕ, List, refl, sym, ap, ◌∙◌, arith}
use Rattle.std.specs.Prelude.{Option, Some, None, MatchOption, IfSome}
use Rattle.std.specs.Option.{option_map}
use Rattle.command_words_meaning.specs.WordLists as meant
use Rattle.command_words_laws.specs.WordLaws.{IsInRange}
use Rattle.command_words_laws.proofs.Tasks.{tasks_are_in_range}
use Rattle.command_words_laws.proofs.Workers.{workers_are_bounded}
use Rattle.command_words.specs.declared.task.Task.{Task}
use Rattle.command_words.specs.declared.task.Task.TheVariants.{Play, CheckFolder, Generate}
use Rattle.command_words.specs.declared.run.Run.{Run}
use Rattle.command_words.specs.ReadRuns.{read_task, read_run, IsInBounds, IsWithin}

-- what is found first, or else
pub first_found : (first found : Option Run) (Else : Type 0) (one other : Option meant.Run) → option_map read_run first ≡ one
    → (Else → option_map read_run found ≡ other) → MatchOption first Else (λ run. found ≡ Some run) → option_map read_run found ≡ meant.first_of one other
first_found None found Else one other e more h = more h ∙ ap (λ x. meant.first_of x other) e
first_found (Some run) found Else one other e more h = ap (option_map read_run) h ∙ ap (λ x. meant.first_of x other) e

-- the first of five
pub first_of_five : (a b c d e : Option meant.Run) → meant.first_of (meant.first_of (meant.first_of (meant.first_of a b) c) d) e
    ≡ meant.first_of a (meant.first_of b (meant.first_of c (meant.first_of d e)))
first_of_five (Some a) b c d e = refl
first_of_five None (Some b) c d e = refl
first_of_five None None (Some c) d e = refl
first_of_five None None None d e = refl

in_bounds : (task : Task) → IsInRange (read_task task) → IsInBounds task
in_bounds Play h = tt
in_bounds (CheckFolder folder) h = tt
in_bounds (Generate start modules edits) h = (omega (arith, h.0), h.1, h.2, h.3)

pub found_within : (words : List (List ℕ)) (found : Option Run) → option_map read_run found ≡ meant.run_of words → IfSome found IsWithin
found_within words None h = tt
found_within words (Some run) h = record {
  workers = workers_are_bounded words (read_run run) (sym h);
  numbers = in_bounds run.task (tasks_are_in_range words (read_run run) (sym h));
}
