-- A disk on which an edit can be appended to a saved log, and what a crash may leave then (this profile).
use Rattle.std.specs.Prelude.{◌≡◌, ◌≢◌, ◌⊎◌, ℕ, List, [], ◌∷◌, ◌++◌, length}
use Rattle.saved_log_meaning.specs.SavedFiles.{Contents, file_contents}
use Rattle.saved_log_meaning.specs.Disks.{Only}

-- The disk has this file and a crash would leave nothing else; at this place stands a closed gate; and the piece, which is to be written
-- behind it, is a record with a closed gate behind that. With the gate closed the file holds what it held before, whatever stands behind
-- the gate; with any other byte for a gate, and the piece behind it, it holds what is wanted afterwards, whatever stands behind that.
pub record Ready (file : List ℕ) (images : List ℕ → Type 0) (gate : ℕ) (piece : List ℕ) (before after : Contents) : Type 0 where
  pub front : List ℕ
  pub behind : List ℕ
  pub edit_bytes : List ℕ
  pub is_split : file ≡ front ++ 0 ∷ behind
  pub is_durable : Only file images
  pub is_place : gate ≡ length front
  pub is_piece : piece ≡ edit_bytes ++ 0 ∷ []
  pub if_closed : (rest : List ℕ) → file_contents (front ++ 0 ∷ rest) ≡ before
  pub if_open : (byte : ℕ) (rest : List ℕ) → byte ≢ 0 → file_contents (front ++ byte ∷ (edit_bytes ++ 0 ∷ rest)) ≡ after

-- The image holds what the file held before, or what is wanted afterwards.
abbrev pub BeforeOrAfter : Contents → Contents → List ℕ → Type 0
BeforeOrAfter before after image = (file_contents image ≡ before) ⊎ (file_contents image ≡ after)
