-- How far a front of a text goes.
use Rattle.std.specs.Prelude.{◌≡◌, ℕ, ◌-◌, ◌≤◌, ◌<◌, Bool, true, false, List, [], length, drop, slice_index}
use Rattle.std.specs.List.{list_all, slice_range}
use Rattle.text_meaning.specs.Bytes.{percent, begins}
use Rattle.text_meaning.specs.Cutting.{Between, InComment, cut_on}
use Rattle.text_meaning.specs.Cut.{Unclosed}

-- the longest front of what follows a place whose bytes pass a test
pub record IsFront (test : ℕ → Bool) (text : List ℕ) (at to : ℕ) : Type 0 where
  pub forward : at ≤ to
  pub within : to ≤ length text
  pub passes : list_all test (slice_range text at to) ≡ true
  pub ends : begins test (drop to text) ≡ false

-- a comment that begins before a place, and the place behind its end
pub record Closes (text : List ℕ) (at to : ℕ) : Type 0 where
  pub forward : at < to
  pub within : to ≤ length text
  pub ends : slice_index text (to - 1) ≡ percent
  pub closes : (from : ℕ) → cut_on (InComment from 0) at (drop at text) ≡ cut_on Between to (drop to text)

-- it has no end
abbrev pub StaysOpen : List ℕ → ℕ → Type 0
StaysOpen text at = (from : ℕ) → cut_on (InComment from 0) at (drop at text) ≡ record { tokens = []; ending = Unclosed from }
