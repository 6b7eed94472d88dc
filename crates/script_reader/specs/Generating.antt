-- A generator that is asked for its edits one after another.
use Rattle.std.specs.Prelude.{◌≡◌, ◌<◌, ◌+◌, ℕ, slice_get, Some}
use Rattle.edit_log_meaning.specs.Log.{Edit}
use Rattle.run_meaning.specs.Generator.{generated}

-- What is seen of a generator: the number that it starts from, of how many modules its library is, and how many edits
-- it has given.
pub record Generating : Type 0 where
  pub start : ℕ
  pub modules : ℕ
  pub given : ℕ

-- The edit comes next: it stands at this place among the generator's edits, however many more are asked for.
abbrev pub ComesNext : Generating → Edit → Type 0
ComesNext generating edit =
    (edits : ℕ) → generating.given < generating.modules + edits
    → slice_get (generated generating.start generating.modules edits) generating.given ≡ Some edit

-- One edit more was given.
abbrev pub gave_one : Generating → Generating
gave_one generating = record { start = generating.start; modules = generating.modules; given = generating.given + 1 }
