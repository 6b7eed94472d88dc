-- Disks in memory: what they tell is defined by the calls that they were asked for (this profile).
use Rattle.std.specs.Prelude.{◌≡◌, ◌⊎◌, ℕ, ◌+◌, ◌≤◌, List, [], ◌∷◌, ◌++◌, length, take, drop, refl, Bool, ◌||◌, nat_lt, if◌then◌else◌}
use Rattle.std.proofs.Common.{inl, inr, arith}
use Rattle.saved_log_meaning.specs.Disks.{Torn}
use Rattle.saved_log_laws.proofs.CutShort.{nothing_is_torn}
use Rattle.mmt_outside.specs.Memory.{Calls, next_fails, with_call, with_fault}

-- A call: one that writes nothing, a write of a piece from a place on, a write of so many bytes that failed, a sync.
pub data Call : Type 0 where
  Other : Call
  Wrote : ℕ → List ℕ → Call
  CutShort : ℕ → ℕ → Call
  Synced : Call

-- The bytes with the piece written from the place on, or behind them where they end before it.
abbrev pub with_piece : List ℕ → ℕ → List ℕ → List ℕ
with_piece old at piece = take at old ++ piece ++ drop (at + length piece) old

-- What a read gives after a call.
abbrev pub seen_after : List ℕ → Call → List ℕ
seen_after old Other = old
seen_after old (Wrote at piece) = with_piece old at piece
seen_after old (CutShort at count) = old
seen_after old Synced = old

-- What a read gives of a file with these bytes after these calls, the last one first.
unfoldable pub seen_of : List ℕ → List Call → List ℕ
seen_of start [] = start
seen_of start (call ∷ calls) = seen_after (seen_of start calls) call

-- What a crash leaves of such images by a write of so many bytes from a place on that is cut short.
abbrev pub TornFrom : (List ℕ → Type 0) → ℕ → ℕ → List ℕ → Type 0
TornFrom images at count image = (from : List ℕ) × images from × Torn at count from image

-- What a crash may leave after a call, where it might have left these images before it.
abbrev pub images_after : List ℕ → (List ℕ → Type 0) → Call → List ℕ → Type 0
images_after seen images Other image = images image
images_after seen images (Wrote at piece) image = (image ≡ with_piece seen at piece) ⊎ TornFrom images at (length piece) image
images_after seen images (CutShort at count) image = TornFrom images at count image
images_after seen images Synced image = image ≡ seen

-- What a crash may leave after these calls, the last one first.
unfoldable pub images_of : List ℕ → List Call → List ℕ → Type 0
images_of start [] image = image ≡ start
images_of start (call ∷ calls) image = images_after (seen_of start calls) (images_of start calls) call image

-- What a crash at some moment since that one might have left: a moment is a number of calls.
unfoldable pub left_of : List ℕ → List Call → ℕ → List ℕ → Type 0
left_of start [] moment image = images_of start [] image
left_of start (call ∷ calls) moment image = images_of start (call ∷ calls) image ⊎ ((moment ≤ length calls) × left_of start calls moment image)

-- A disk in memory: the bytes of its file at the beginning, its calls, the last one first, the room for them and how much of it is
-- taken, and the count of the calls.
pub record MemState : Type 0 where
  pub start : List ℕ
  pub kept : List Call
  pub room : ℕ
  pub taken : ℕ
  pub calls : Calls

-- The laws of a disk.
pub seen_is_image : (start : List ℕ) (calls : List Call) → images_of start calls (seen_of start calls)
unfolding seen_of images_of
seen_is_image start [] = refl
seen_is_image start (Other ∷ calls) = seen_is_image start calls
seen_is_image start (Wrote at piece ∷ calls) = inl refl
seen_is_image start (CutShort at count ∷ calls) = (seen_of start calls, seen_is_image start calls, nothing_is_torn at count (seen_of start calls))
seen_is_image start (Synced ∷ calls) = refl

pub image_counts : (start : List ℕ) (calls : List Call) (moment : ℕ) (image : List ℕ) → moment ≤ length calls → images_of start calls image → left_of start calls moment image
unfolding left_of
image_counts start [] moment image le now = now
image_counts start (call ∷ calls) moment image le now = inl now

pub image_only : (start : List ℕ) (calls : List Call) (image : List ℕ) → left_of start calls (length calls) image → images_of start calls image
unfolding left_of
image_only start [] image left = left
image_only start (call ∷ calls) image (inl now) = now
image_only start (call ∷ calls) image (inr (le, left)) = absurd (omega (arith, le))

-- Calls that are kept, the last one first, with the room for them and how much of it they take.
pub record Recorded : Type 0 where
  pub kept : List Call
  pub room : ℕ
  pub taken : ℕ

-- The next call, which takes so much room beside its own, fails: its number is listed, or the room is not left.
abbrev pub call_fails : MemState → ℕ → Bool
call_fails disk extra = next_fails disk.calls || nat_lt disk.room (disk.taken + (extra + 32))

-- The disk with that call counted.
abbrev pub counted : MemState → ℕ → MemState
counted disk extra = record {
  start = disk.start;
  kept = disk.kept;
  room = disk.room;
  taken = disk.taken;
  calls = if call_fails disk extra then with_fault (with_call disk.calls) else with_call disk.calls;
}

-- The disk with a call that is kept, which takes so much room.
abbrev pub noted : Call → MemState → ℕ → MemState
noted call disk size = record {
  start = disk.start;
  kept = call ∷ disk.kept;
  room = disk.room;
  taken = disk.taken + size;
  calls = disk.calls;
}
