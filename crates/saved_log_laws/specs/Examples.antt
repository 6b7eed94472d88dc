-- Worked files: what they hold, and where they are damaged.
use Rattle.std.specs.Prelude.{◌≡◌, List, [], ◌∷◌, ◌++◌, ℕ, take, codes}
use Rattle.edit_log_meaning.specs.Log.{Edit, Put, Drop}
use Rattle.saved_log_meaning.specs.Records.{record_bytes}
use Rattle.saved_log_meaning.specs.SavedFiles.{Edits, DamagedAt, heading, file_contents}

-- The text `x` and a line feed is put under A.
abbrev pub first_put : Edit
first_put = Put (codes "A") (codes "x\n")

-- Its record.
abbrev pub put_record : List ℕ
put_record = 0 ∷ 1 ∷ 0 ∷ 0 ∷ 0 ∷ 0x41 ∷ 2 ∷ 0 ∷ 0 ∷ 0 ∷ 0x78 ∷ 0x0a ∷ []

-- A file with this edit: `mmtlog1` and a line feed, an open gate, the record, a closed gate.
abbrev pub one_put : List ℕ
one_put = 0x6d ∷ 0x6d ∷ 0x74 ∷ 0x6c ∷ 0x6f ∷ 0x67 ∷ 0x31 ∷ 0x0a ∷ 1 ∷ 0 ∷ 1 ∷ 0 ∷ 0 ∷ 0 ∷ 0x41 ∷ 2 ∷ 0 ∷ 0 ∷ 0 ∷ 0x78 ∷ 0x0a ∷ 0 ∷ []

abbrev pub OnePut : Type 0
OnePut = file_contents one_put ≡ Edits (first_put ∷ [])

-- A record is written as it is read.
abbrev pub WrittenPut : Type 0
WrittenPut = record_bytes first_put ≡ put_record

-- The same edit and one that drops A.
abbrev pub PutAndDrop : Type 0
PutAndDrop =
    file_contents (heading ++ 1 ∷ (put_record ++ 1 ∷ 1 ∷ 1 ∷ 0 ∷ 0 ∷ 0 ∷ 0x41 ∷ 0 ∷ [])) ≡ Edits (first_put ∷ Drop (codes "A") ∷ [])

-- What stands behind a closed gate is not looked at.
abbrev pub JunkIsLeft : Type 0
JunkIsLeft = file_contents (one_put ++ 1 ∷ 7 ∷ []) ≡ Edits (first_put ∷ [])

-- A gate is open with any byte but 0.
abbrev pub AnyOtherByteIsOpen : Type 0
AnyOtherByteIsOpen = file_contents (heading ++ 255 ∷ (put_record ++ 0 ∷ [])) ≡ Edits (first_put ∷ [])

-- Nine bytes hold no edits, whatever they are.
abbrev pub NineBytesAreNoEdits : Type 0
NineBytesAreNoEdits = file_contents (1 ∷ 2 ∷ 3 ∷ 4 ∷ 5 ∷ 6 ∷ 7 ∷ 8 ∷ 9 ∷ []) ≡ Edits []

-- Ten bytes with an open gate are damaged there.
abbrev pub TenBytesWithOpenGate : Type 0
TenBytesWithOpenGate = file_contents (heading ++ 1 ∷ 0 ∷ []) ≡ DamagedAt 8

-- The file with one put, cut within its record.
abbrev pub CutFile : Type 0
CutFile = file_contents (take 12 one_put) ≡ DamagedAt 8

-- Another heading.
abbrev pub OtherHeading : Type 0
OtherHeading = file_contents (codes "mmtlog2\n" ++ 0 ∷ 0 ∷ []) ≡ DamagedAt 0

-- A whole record that ends the file.
abbrev pub NoGateBehindRecord : Type 0
NoGateBehindRecord = file_contents (heading ++ 1 ∷ put_record) ≡ DamagedAt 8

-- A kind that is neither put nor drop, with a name that could be dropped and an empty text that could be put.
abbrev pub OtherKind : Type 0
OtherKind =
    file_contents (heading ++ 1 ∷ (put_record ++ 1 ∷ 2 ∷ 1 ∷ 0 ∷ 0 ∷ 0 ∷ 0x41 ∷ 0 ∷ 0 ∷ 0 ∷ 0 ∷ 0 ∷ [])) ≡ DamagedAt 21

-- The name `=` is a reserved word.
abbrev pub ReservedWord : Type 0
ReservedWord = file_contents (heading ++ 1 ∷ 0 ∷ 1 ∷ 0 ∷ 0 ∷ 0 ∷ 0x3d ∷ 2 ∷ 0 ∷ 0 ∷ 0 ∷ 0x78 ∷ 0x0a ∷ 0 ∷ []) ≡ DamagedAt 8

-- The name is the byte 255, which is not UTF-8.
abbrev pub NotUtf8 : Type 0
NotUtf8 = file_contents (heading ++ 1 ∷ 0 ∷ 1 ∷ 0 ∷ 0 ∷ 0 ∷ 0xff ∷ 2 ∷ 0 ∷ 0 ∷ 0 ∷ 0x78 ∷ 0x0a ∷ 0 ∷ []) ≡ DamagedAt 8

-- The same text is put again.
abbrev pub SameTextAgain : Type 0
SameTextAgain = file_contents (heading ++ 1 ∷ (put_record ++ 1 ∷ (put_record ++ 0 ∷ []))) ≡ DamagedAt 21

-- A name is dropped that the library lacks.
abbrev pub AbsentName : Type 0
AbsentName = file_contents (heading ++ 1 ∷ 1 ∷ 1 ∷ 0 ∷ 0 ∷ 0 ∷ 0x41 ∷ 0 ∷ []) ≡ DamagedAt 8

-- The damage is told at the second gate, behind a whole edit.
abbrev pub SecondGateIsDamaged : Type 0
SecondGateIsDamaged = file_contents (heading ++ 1 ∷ (put_record ++ 1 ∷ 0 ∷ [])) ≡ DamagedAt 21
