-- Which input of a claim has changed first (this profile).
use Rattle.std.specs.Prelude.{◌≡◌, ℕ, List, slice_get, Some}
use Rattle.board_meaning.specs.Events.{History}
use Rattle.board_meaning.specs.Claims.{Input, first_changed}

-- The first input that has changed stands at this place, and this is its present stamp.
pub record IsFirstChanged (history : History) (inputs : List Input) (place newer : ℕ) : Type 0 where
  pub input : Input
  pub at : slice_get inputs place ≡ Some input
  pub changed : first_changed history inputs ≡ Some (record { name = input.name; stamp = newer })
