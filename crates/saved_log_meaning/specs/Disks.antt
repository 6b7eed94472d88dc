-- What writes and syncs do to the bytes of a file on a disk, and what a crash may leave of them (this profile). An image is what a
-- crash may leave of the file, as its bytes. Places are counted from 0.
use Rattle.std.specs.Prelude.{◌≡◌, ◌⊎◌, ℕ, ◌+◌, ◌≤◌, max, List, ◌++◌, length, take, drop}

-- The new bytes are the old ones with these written from the place on.
abbrev pub Holds : List ℕ → ℕ → List ℕ → List ℕ → Type 0
Holds old at bytes new = new ≡ take at old ++ bytes ++ drop (at + length bytes) old

-- The new bytes are what may be left of the old ones by a write of so many bytes from the place on, which may be cut short and which
-- starts no later than at the old end. In the range that is written anything may stand; where the range passes the old end the new end
-- may stand anywhere between the old one and the end of the range; all bytes outside of the range stay.
pub record Torn (at count : ℕ) (old new : List ℕ) : Type 0 where
  pub before : take at new ≡ take at old
  pub behind : drop (at + count) new ≡ drop (at + count) old
  pub no_shorter : length old ≤ length new
  pub no_longer : length new ≤ max (length old) (at + count)

-- Each of the new images comes from one of the old ones by such a step.
abbrev pub Follows : (List ℕ → List ℕ → Type 0) → (List ℕ → Type 0) → (List ℕ → Type 0) → Type 0
Follows step old new = (image : List ℕ) → new image → (from : List ℕ) × old from × step from image

-- A crash leaves this file and nothing else.
abbrev pub Only : List ℕ → (List ℕ → Type 0) → Type 0
Only file images = (image : List ℕ) → images image → image ≡ file

-- Time passes from one moment to a later one. Of each moment that was not later than the first it was known what crashes since then
-- might have left; all of that is left now, and beside it nothing but these images.
pub record Elapses (before now : ℕ) (left_before left_now : ℕ → List ℕ → Type 0) (images : List ℕ → Type 0) : Type 0 where
  pub later : before ≤ now
  pub nothing_else : (moment : ℕ) (image : List ℕ) → moment ≤ before → left_now moment image → left_before moment image ⊎ images image
  pub keeps : (moment : ℕ) (image : List ℕ) → moment ≤ before → left_before moment image → left_now moment image

-- From an old state of a disk to a new one, crashes leave only what has the property: all that they might have left since the old
-- state's moment has it, and since earlier moments they might have left no more than that and what they might have left before. Given
-- are the moment of each state, and what crashes might have left since a moment, as the state knows it.
pub record LeavesOnly {D : Type 0} (moment_of : D → ℕ) (left_since : D → ℕ → List ℕ → Type 0) (old new : D) (P : List ℕ → Type 0) : Type 0 where
  pub later : moment_of old ≤ moment_of new
  pub each : (image : List ℕ) → left_since new (moment_of old) image → P image
  pub before : (moment : ℕ) (image : List ℕ) → moment ≤ moment_of old → left_since new moment image → left_since old moment image ⊎ P image
