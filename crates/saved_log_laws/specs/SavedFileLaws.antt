-- Laws of the file of a saved log (this profile).
use Rattle.std.specs.Prelude.{◌≡◌, ◌≢◌, ◌⊎◌, true, ⊤, ℕ, suc, ◌+◌, ◌<◌, ◌≤◌, ◌^◌, List, [], ◌∷◌, ◌++◌, length, take, Some, None}
use Rattle.edit_log_meaning.specs.Log.{Edit, Log, edited_name}
use Rattle.edit_log_meaning.specs.Append.{Made, append_answer}
use Rattle.saved_log_meaning.specs.Records.{Read, is_saved_name, record_of, record_bytes, record_size}
use Rattle.saved_log_meaning.specs.SavedFiles.{Edits, DamagedAt, contents_within, contents_from, heading, file_contents}
use Rattle.saved_log_meaning.specs.Disks.{Only}
use Rattle.saved_log_meaning.specs.Appends.{Ready}

-- The log makes the edit, whose name can stand in a saved log, with a length that fits into four bytes.
pub record Takes (log : Log) (edit : Edit) : Type 0 where
  pub named : is_saved_name (edited_name edit) ≡ true
  pub name : length (edited_name edit) < 2 ^ 32
  pub version : ℕ
  pub made : append_answer log edit ≡ Made version

-- The log takes these edits, one after another.
abbrev pub TakesAll : Log → List Edit → Type 0
TakesAll log [] = ⊤
TakesAll log (edit ∷ edits) = Takes log edit × TakesAll (log ++ edit ∷ []) edits

-- A closed gate ends the edits, whatever stands behind it.
abbrev pub ClosedGateEnds : Type 0
ClosedGateEnds = (at : ℕ) (log : Log) (rest : List ℕ) → contents_from at log (0 ∷ rest) ≡ Edits log

-- An open gate before the record of an edit that is made goes on at the gate behind the record.
abbrev pub OpenGateGoesOn : Type 0
OpenGateGoesOn =
    (gate at : ℕ) (log : Log) (bytes : List ℕ) (edit : Edit) (version next : ℕ) (rest : List ℕ) → gate ≢ 0
    → record_of bytes ≡ Some (record { value = edit; rest = next ∷ rest }) → append_answer log edit ≡ Made version
    → contents_from at log (gate ∷ bytes) ≡ contents_from (at + suc (record_size edit)) (log ++ edit ∷ []) (next ∷ rest)

-- To look at as many gates as there are bytes is enough.
abbrev pub GatesSuffice : Type 0
GatesSuffice = (gates at : ℕ) (log : Log) (bytes : List ℕ) → length bytes ≤ gates → contents_within gates at log bytes ≡ contents_from at log bytes

-- Records with an open gate in front of each and a closed gate behind the last one.
abbrev pub gated_bytes : List Edit → List ℕ
gated_bytes [] = 0 ∷ []
gated_bytes (edit ∷ edits) = 1 ∷ (record_bytes edit ++ gated_bytes edits)

-- A file that is written for these edits.
abbrev pub written_file : List Edit → List ℕ
written_file edits = heading ++ gated_bytes edits

-- A written file holds its edits and no others, whatever stands behind it.
abbrev pub WrittenFileIsRead : Type 0
WrittenFileIsRead = (edits : List Edit) (rest : List ℕ) → TakesAll [] edits → file_contents (written_file edits ++ rest) ≡ Edits edits

-- From a gate with these edits in front the bytes lead to the next gate behind them, with more edits in front: what the file holds is
-- decided there, whatever stands from that gate on.
abbrev pub LeadsTo : ℕ → Log → List ℕ → Log → Type 0
LeadsTo at before bytes log =
    (gate : ℕ) (rest : List ℕ) → contents_from at before (bytes ++ gate ∷ rest) ≡ contents_from (at + length bytes) log (gate ∷ rest)

-- The file has a closed gate to which its heading and what stands behind it lead, with these edits in front.
pub record LastGate (file : List ℕ) (log : Log) : Type 0 where
  pub front : List ℕ
  pub behind : List ℕ
  pub is_split : file ≡ heading ++ (front ++ 0 ∷ behind)
  pub leads : LeadsTo (length heading) [] front log

-- A file with edits that is longer than its heading and a gate has a last gate.
abbrev pub FileHasLastGate : Type 0
FileHasLastGate = (file : List ℕ) (log : Log) → suc (length heading) < length file → file_contents file ≡ Edits log → LastGate file log

-- A file with a last gate holds the edits in front of it.
abbrev pub LastGateIsRead : Type 0
LastGateIsRead = (file : List ℕ) (log : Log) → LastGate file log → file_contents file ≡ Edits log

-- The heading and a closed gate have one, with no edits.
abbrev pub NewFileHasLastGate : Type 0
NewFileHasLastGate = LastGate (heading ++ 0 ∷ []) []

-- Where the last gate is opened before the record of an edit that the log takes and a closed gate, that gate is the last one.
abbrev pub NextGateIsLast : Type 0
NextGateIsLast =
    (file : List ℕ) (log : Log) (edit : Edit) (last : LastGate file log) (gate : ℕ) (rest : List ℕ) → gate ≢ 0 → Takes log edit
    → (next : LastGate (heading ++ (last.front ++ gate ∷ (record_bytes edit ++ 0 ∷ rest))) (log ++ edit ∷ []))
    × (length next.front ≡ length last.front + suc (record_size edit))

-- A disk with such a file and nothing else is ready, at the last gate, for each edit that the log takes.
abbrev pub LastGateIsReady : (List ℕ → Type 0) → Type 0
LastGateIsReady images =
    (file : List ℕ) (log : Log) (edit : Edit) (last : LastGate file log) → Takes log edit → Only file images
    → Ready file images (length heading + length last.front) (record_bytes edit ++ 0 ∷ []) (Edits log) (Edits (log ++ edit ∷ []))

-- A file that is no longer than a heading and a gate has no edits, whatever its bytes are.
abbrev pub ShortFileHasNoEdits : Type 0
ShortFileHasNoEdits = (file : List ℕ) → length file ≤ suc (length heading) → file_contents file ≡ Edits []

-- A file that is longer than a heading and a gate is damaged at its beginning where it has another heading.
abbrev pub OtherHeadingIsDamage : Type 0
OtherHeadingIsDamage =
    (file : List ℕ) → suc (length heading) < length file → take (length heading) file ≢ heading → file_contents file ≡ DamagedAt 0

-- No whole record with a gate behind it stands here, or one of an edit that is not made.
pub data IsWrong (log : Log) (bytes : List ℕ) : Type 0 where
  NoRecord : record_of bytes ≡ None → IsWrong log bytes
  NoGate : (edit : Edit) → record_of bytes ≡ Some (record { value = edit; rest = [] }) → IsWrong log bytes
  NotMade : (first : Read Edit) → record_of bytes ≡ Some first → ((version : ℕ) → append_answer log first.value ≢ Made version) → IsWrong log bytes

-- The file has an open gate at this place, to which its heading and what stands behind it lead, with some edits in front, and what stands
-- behind the gate is wrong.
pub record DamagedGate (file : List ℕ) (at : ℕ) : Type 0 where
  pub front : List ℕ
  pub gate : ℕ
  pub behind : List ℕ
  pub log : Log
  pub is_split : file ≡ heading ++ (front ++ gate ∷ behind)
  pub is_place : at ≡ length heading + length front
  pub is_open : gate ≢ 0
  pub leads : LeadsTo (length heading) [] front log
  pub is_wrong : IsWrong log behind

-- A damaged file is damaged at its beginning, with another heading, or at such a gate.
abbrev pub DamageIsAtItsGate : Type 0
DamageIsAtItsGate =
    (file : List ℕ) (at : ℕ) → file_contents file ≡ DamagedAt at → ((at ≡ 0) × (take (length heading) file ≢ heading)) ⊎ DamagedGate file at

-- A file that is longer than a heading and a gate is damaged at such a gate, where it has one.
abbrev pub GateIsDamage : Type 0
GateIsDamage = (file : List ℕ) (at : ℕ) → suc (length heading) < length file → DamagedGate file at → file_contents file ≡ DamagedAt at
