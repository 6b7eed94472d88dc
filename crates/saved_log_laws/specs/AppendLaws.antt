-- Laws of the two writes of an append (this profile).
use Rattle.std.specs.Prelude.{◌≡◌, ℕ, ◌+◌, ◌≤◌, List, [], ◌∷◌, length}
use Rattle.saved_log_meaning.specs.SavedFiles.{Contents, file_contents}
use Rattle.saved_log_meaning.specs.Disks.{Holds, Torn, Follows, Only}
use Rattle.saved_log_meaning.specs.Appends.{Ready, BeforeOrAfter}

-- What a crash leaves of a disk that is ready holds the edits from before.
abbrev pub ReadyHoldsBefore : (List ℕ → Type 0) → Type 0
ReadyHoldsBefore images =
    (file : List ℕ) (gate : ℕ) (piece : List ℕ) (before after : Contents) → Ready file images gate piece before after
    → (image : List ℕ) → images image → file_contents image ≡ before

-- The first write starts no later than at the end of the file, and the second one no later than at the end of what the first one leaves.
abbrev pub PlacesAreWithin : (List ℕ → Type 0) → Type 0
PlacesAreWithin images =
    (file : List ℕ) (gate : ℕ) (piece : List ℕ) (before after : Contents) → Ready file images gate piece before after
    → (gate + 1 ≤ length file) × ((staged : List ℕ) → Holds file (gate + 1) piece staged → gate ≤ length staged)

-- Every crash while the piece is written behind the gate leaves the edits from before.
abbrev pub FirstWriteLeavesBefore : (List ℕ → Type 0) → (List ℕ → Type 0) → Type 0
FirstWriteLeavesBefore images torn =
    (file : List ℕ) (gate : ℕ) (piece : List ℕ) (before after : Contents) → Ready file images gate piece before after
    → Follows (Torn (gate + 1) (length piece)) images torn → (image : List ℕ) → torn image → file_contents image ≡ before

-- Every crash while the gate is written, when the piece is on the disk and nothing else would be left, leaves the edits from before or
-- those that are wanted.
abbrev pub SecondWriteLeavesEither : (List ℕ → Type 0) → (List ℕ → Type 0) → (List ℕ → Type 0) → Type 0
SecondWriteLeavesEither images synced torn =
    (file : List ℕ) (gate : ℕ) (piece : List ℕ) (before after : Contents) → Ready file images gate piece before after
    → (staged : List ℕ) → Holds file (gate + 1) piece staged → Only staged synced
    → Follows (Torn gate 1) synced torn → (image : List ℕ) → torn image → BeforeOrAfter before after image

-- When both are written the file holds the edits that are wanted.
abbrev pub BothWritesHoldAfter : (List ℕ → Type 0) → Type 0
BothWritesHoldAfter images =
    (file : List ℕ) (gate : ℕ) (piece : List ℕ) (before after : Contents) → Ready file images gate piece before after
    → (staged new : List ℕ) → Holds file (gate + 1) piece staged → Holds staged gate (1 ∷ []) new → file_contents new ≡ after
