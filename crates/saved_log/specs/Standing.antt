-- A saved log on a disk, and the faults of opening one (this profile).
use Rattle.std.specs.Prelude.{◌≡◌, ◌⊎◌, ℕ, suc, ◌+◌, ◌*◌, ◌^◌, ◌<◌, ◌≤◌, List, [], ◌∷◌, ◌++◌, length, Some, Result, IsErrOf}
use Rattle.edit_log_meaning.specs.Log.{Edit, Log}
use Rattle.edit_log_meaning.specs.Append.{Made, append_answer}
use Rattle.saved_log_meaning.specs.Records.{record_of, record_size}
use Rattle.saved_log_meaning.specs.SavedFiles.{Contents, Edits, DamagedAt, heading, file_contents}
use Rattle.saved_log_meaning.specs.Disks.{Only}
use Rattle.saved_log_laws.specs.SavedFileLaws.{LastGate, LeadsTo}
use Rattle.mmt_outside.specs.Faults.{Rose}
use Rattle.mmt_outside.specs.declared.fault.OutFault.{OutFault}
use Rattle.mmt_outside.specs.declared.fault.OutFault.TheVariants as out_fault
use Rattle.saved_log.specs.declared.fault.SaveFault.{SaveFault}
use Rattle.saved_log.specs.declared.fault.SaveFault.TheVariants.{Failed, Damaged, Memory}

-- The last gate of the file stands at this place, with these edits in front.
pub record EndsAt (log : Log) (gate : ℕ) (file : List ℕ) : Type 0 where
  pub last : LastGate file log
  pub is_place : gate ≡ length heading + length last.front

-- The disk has a file whose last gate stands at this place, with these edits in front, and a crash leaves nothing else.
pub record StandsAt (log : Log) (gate : ℕ) (file : List ℕ) (images : List ℕ → Type 0) : Type 0 where
  pub ends : EndsAt log gate file
  pub is_durable : Only file images

-- What a saved log knows: the place of the last gate, and how many edits stand in front of it.
pub record SavedAt : Type 0 where
  pub gate : ℕ
  pub edits : ℕ

-- The place of a gate is far below 2^64, as a record has fewer than 2^34 bytes and there are at most 2^16 of them.
abbrev pub IsNear : ℕ → ℕ → Type 0
IsNear gate edits = gate ≤ 8 + edits * 2 ^ 34

-- An image that could be left before, or, where the file has edits, one that holds these.
abbrev pub IsLeftOrHolds : (List ℕ → Type 0) → List ℕ → List ℕ → Type 0
IsLeftOrHolds images file image = images image ⊎ ((log : Log) × (file_contents file ≡ Edits log) × (file_contents image ≡ Edits log))

-- The fault is no damage, or the damage of a file that holds this.
abbrev pub IsDamageOf : Contents → SaveFault → Type 0
IsDamageOf contents Failed = Unit {0}
IsDamageOf contents (Damaged at) = contents ≡ DamagedAt at
IsDamageOf contents Memory = Unit {0}

-- The fault is want of memory, or the damage of a file that holds this.
abbrev pub IsFaultOf : Contents → SaveFault → Type 0
IsFaultOf contents Failed = ⊥
IsFaultOf contents (Damaged at) = contents ≡ DamagedAt at
IsFaultOf contents Memory = Unit {0}

-- The fault is damage.
abbrev pub IsDamage : SaveFault → Type 0
IsDamage Failed = ⊥
IsDamage (Damaged at) = Unit {0}
IsDamage Memory = ⊥

-- The count has not fallen, and the result is the fault `Failed` only where the count rose.
pub record HasCauseOfFault {T : Type 0} (before now : ℕ) (result : Result T SaveFault) : Type 0 where
  pub later : before ≤ now
  pub failed : IsErrOf result Failed → Rose before now

-- The bytes begin with a record, of this size, and a gate behind it; the log makes its edit, which is its last one then.
pub record IsTaken (bytes : List ℕ) (old new : Log) (size : ℕ) : Type 0 where
  pub edit : Edit
  pub gate : ℕ
  pub rest : List ℕ
  pub version : ℕ
  pub read : record_of bytes ≡ Some (record { value = edit; rest = gate ∷ rest })
  pub made : append_answer old edit ≡ Made version
  pub is_log : new ≡ old ++ edit ∷ []
  pub is_size : size ≡ record_size edit
  pub is_near : size < 2 ^ 34

-- Reading has come to a gate at this place of the file, closed or not, to which the heading and what stands behind it lead, with these
-- edits in front.
pub record Reached (file : List ℕ) (log : Log) (gate : ℕ) : Type 0 where
  pub front : List ℕ
  pub byte : ℕ
  pub behind : List ℕ
  pub is_split : file ≡ heading ++ (front ++ byte ∷ behind)
  pub is_place : gate ≡ length heading + length front
  pub leads : LeadsTo (length heading) [] front log

-- The fault that a call on the outside ended with.
abbrev pub fault_of : OutFault → SaveFault
fault_of out_fault.Failed = Failed
fault_of out_fault.Memory = Memory

-- The file is no longer than its heading and a gate.
abbrev pub IsShort : List ℕ → Type 0
IsShort file = length file ≤ suc (length heading)
