-- Which module is the first whose verdict is to come (this profile).
use Rattle.std.specs.Prelude.{◌≡◌, ◌≤◌, ◌<◌, ℕ, true, false, length, slice_get, Option, Some, IfSome}
use Rattle.name_meaning.specs.Names.{Name}
use Rattle.edit_log_meaning.specs.Log.{names_of}
use Rattle.module_graph_meaning.specs.Walks.{Dependencies}
use Rattle.board_meaning.specs.Events.{History, library_after}
use Rattle.board_meaning.specs.Machine.{is_known}

-- This is the place, in byte order of the names of the library, of the first module at a place or behind it whose verdict may not be
-- told; or there is none, and the verdicts of all modules from there on may be told.
pub record IsFirstPending (dependencies : Dependencies) (history : History) (start : ℕ) (found : Option ℕ) : Type 0 where
  pub within : IfSome found (λ place. (start ≤ place) × (place < length (names_of (library_after history))))
  pub pending : IfSome found (λ place. (name : Name) → slice_get (names_of (library_after history)) place ≡ Some name → is_known dependencies history name ≡ false)
  pub known : (place : ℕ) (name : Name) → start ≤ place → IfSome found (λ last. place < last) → slice_get (names_of (library_after history)) place ≡ Some name
      → is_known dependencies history name ≡ true
