-- Sets of places below a bound, as the list of whether each place is in the set (this profile).
use Rattle.std.specs.Prelude.{◌≡◌, ◌<◌, ℕ, Bool, true, List, slice_get, Some}

-- No place before this one is in the set.
abbrev pub NoneBefore : ℕ → List Bool → Type 0
NoneBefore begin places = (place : ℕ) → place < begin → slice_get places place ≡ Some true → ⊥
