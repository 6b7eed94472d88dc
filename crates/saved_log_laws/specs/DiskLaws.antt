-- Laws of writes that are cut short, and of the moments of a disk (this profile).
use Rattle.std.specs.Prelude.{◌≡◌, ◌⊎◌, ◌↔◌, ℕ, ◌+◌, ◌≤◌, List, ◌++◌, length, take, drop}
use Rattle.saved_log_meaning.specs.Disks.{Holds, Torn, Elapses, LeavesOnly}

-- What a write that is cut short leaves, where it starts no later than at the old end: in place of its range as many bytes or fewer, and
-- a file that is no shorter than the old one.
abbrev pub TornMeans : Type 0
TornMeans =
    (at count : ℕ) (old new : List ℕ) → at ≤ length old
    → Torn at count old new ↔ ((bytes : List ℕ) × (new ≡ take at old ++ (bytes ++ drop (at + count) old)) × (length bytes ≤ count) × (length old ≤ length new))

-- A write that is done may be left.
abbrev pub WrittenIsTorn : Type 0
WrittenIsTorn = (at : ℕ) (bytes old new : List ℕ) → at ≤ length old → Holds old at bytes new → Torn at (length bytes) old new

-- So may nothing of it.
abbrev pub NothingIsTorn : Type 0
NothingIsTorn = (at count : ℕ) (old : List ℕ) → Torn at count old old

-- Two times that follow each other are one, with the images of both.
abbrev pub TimeGoesOn : (left_before left_between left_now : ℕ → List ℕ → Type 0) (images more : List ℕ → Type 0) → Type 0
TimeGoesOn left_before left_between left_now images more =
    (before between now : ℕ) → Elapses before between left_before left_between images → Elapses between now left_between left_now more
    → Elapses before now left_before left_now (λ image. images image ⊎ more image)

-- Before the first call crashes leave only what may be left at the moment itself.
abbrev pub MomentsStart : {D : Type 0} (moment_of : D → ℕ) (left_since : D → ℕ → List ℕ → Type 0) (old : D) (P : List ℕ → Type 0) → Type 0
MomentsStart moment_of left_since old P =
    ((image : List ℕ) → left_since old (moment_of old) image → P image) → LeavesOnly moment_of left_since old old P

-- Where crashes left only what has the property, they do so after one more call of which each image has it.
abbrev pub MomentsGoOn : {D : Type 0} (moment_of : D → ℕ) (left_since : D → ℕ → List ℕ → Type 0) (old between new : D) (P images : List ℕ → Type 0) → Type 0
MomentsGoOn moment_of left_since old between new P images =
    LeavesOnly moment_of left_since old between P → Elapses (moment_of between) (moment_of new) (left_since between) (left_since new) images
    → ((image : List ℕ) → images image → P image) → LeavesOnly moment_of left_since old new P
