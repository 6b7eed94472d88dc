-- Laws of records (this profile).
use Rattle.std.specs.Prelude.{◌≡◌, true, ℕ, ◌<◌, ◌^◌, List, ◌++◌, length, nat_lt, Some}
use Rattle.std.specs.List.{list_all}
use Rattle.edit_log_meaning.specs.Log.{Edit, edited_name}
use Rattle.edit_log_meaning.specs.Append.{size_of}
use Rattle.saved_log_meaning.specs.Records.{is_saved_name, record_of, record_bytes, record_size}

-- The edit can be written as a record: its name can stand in a saved log, and the lengths of its name and its text fit into four bytes.
pub record FitsRecord (edit : Edit) : Type 0 where
  pub named : is_saved_name (edited_name edit) ≡ true
  pub name : length (edited_name edit) < 2 ^ 32
  pub text : size_of edit < 2 ^ 32

-- The numbers are bytes.
abbrev pub AreBytes : List ℕ → Type 0
AreBytes bytes = list_all (λ byte. nat_lt byte 256) bytes ≡ true

-- What is written reads back, whatever stands behind it.
abbrev pub WrittenRecordIsRead : Type 0
WrittenRecordIsRead =
    (edit : Edit) (rest : List ℕ) → FitsRecord edit → record_of (record_bytes edit ++ rest) ≡ Some (record { value = edit; rest = rest })

-- What is read from bytes was written so, and fits.
abbrev pub ReadRecordIsWritten : Type 0
ReadRecordIsWritten =
    (bytes : List ℕ) (edit : Edit) (rest : List ℕ) → AreBytes bytes → record_of bytes ≡ Some (record { value = edit; rest = rest })
    → (bytes ≡ record_bytes edit ++ rest) × FitsRecord edit

-- A record is read at its own bytes alone: of any numbers, those that it takes, which are as many as its size, give the same edit whatever
-- stands behind them.
abbrev pub RecordIsAFront : Type 0
RecordIsAFront =
    (bytes : List ℕ) (edit : Edit) (rest : List ℕ) → record_of bytes ≡ Some (record { value = edit; rest = rest })
    → (front : List ℕ) × (bytes ≡ front ++ rest) × (length front ≡ record_size edit)
    × ((other : List ℕ) → record_of (front ++ other) ≡ Some (record { value = edit; rest = other }))
