-- What calls on a disk leave of what it tells (this profile): the bytes that a read gives, what a crash may leave now, a clock, and what
-- crashes since a moment might have left.
use Rattle.std.specs.Prelude.{◌≡◌, ◌↔◌, ℕ, ◌<◌, ◌≤◌, List, ◌∷◌, ◌++◌, length, take, drop}
use Rattle.saved_log_meaning.specs.Disks.{Elapses, Only}

-- Calls that write nothing: a read gives what it gave, and a crash, then or meanwhile, leaves nothing that it could not have left before.
pub record OnlyReads {D : Type 0} (seen : D → List ℕ) (images : D → List ℕ → Type 0) (moment_of : D → ℕ) (left_since : D → ℕ → List ℕ → Type 0) (old new : D) : Type 0 where
  pub same : seen new ≡ seen old
  pub no_more : (image : List ℕ) → images new image → images old image
  pub time : Elapses (moment_of old) (moment_of new) (left_since old) (left_since new) (images old)

-- So many bytes were read of the file from the place on, to the front of these. Where there was room for a byte, none was read exactly at
-- the end of the file, or behind it.
pub record IsRead (file : List ℕ) (at count : ℕ) (into : List ℕ) : Type 0 where
  pub bytes : take count into ≡ take count (drop at file)
  pub ends : 0 < length into → (count ≡ 0) ↔ (length file ≤ at)

-- The file is in order with an opened gate behind the front, the record of an edit and a closed gate, and a crash leaves nothing else.
pub record IsAppended (front edit_bytes file : List ℕ) (images : List ℕ → Type 0) : Type 0 where
  pub behind : List ℕ
  pub is_split : file ≡ front ++ 1 ∷ (edit_bytes ++ 0 ∷ behind)
  pub is_durable : Only file images
