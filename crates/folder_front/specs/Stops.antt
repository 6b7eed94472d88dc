-- Why a check ends before its last line (this profile).
use Rattle.std.specs.Prelude.{ℕ, ◌≤◌, IsErrOf, Result, Ok, Err}
use Rattle.mmt_outside.specs.Faults.{Rose}
use Rattle.mmt_outside.specs.declared.fault.OutFault.{OutFault}
use Rattle.mmt_outside.specs.declared.fault.OutFault.TheVariants.{Failed, Memory as NoMemory}
use Rattle.run_status.specs.declared.status.Status.{Status}
use Rattle.run_status.specs.declared.status.Status.TheVariants.{ReadFault, WriteFault, Memory as MemoryStatus}
use Rattle.folder_front.specs.declared.stop.Stop.{Stop}
use Rattle.folder_front.specs.declared.stop.Stop.TheVariants.{Read, Write, Memory}

-- What a fault of the folder comes to.
abbrev pub by_folder : OutFault → Stop
by_folder Failed = Read
by_folder NoMemory = Memory

-- The status with which a check ends.
abbrev pub status_of : Stop → Status
status_of Read = ReadFault
status_of Write = WriteFault
status_of Memory = MemoryStatus

abbrev pub status_by : Result Status Stop → Status
status_by (Ok status) = status
status_by (Err stop) = status_of stop

-- The sink's count has not fallen. It rose where the sink is named as the cause, and the folder is not named.
pub record StopHasCause {T : Type 0} (before now : ℕ) (result : Result T Stop) : Type 0 where
  pub later : before ≤ now
  pub write : IsErrOf result Write → Rose before now
  pub read : IsErrOf result Read → ⊥
