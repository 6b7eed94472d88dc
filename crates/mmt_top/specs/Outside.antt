-- What a run does to its source and to its sink (this profile). It ended by a status, or goes on where there is none.
use Rattle.std.specs.Prelude.{◌≡◌, ◌≤◌, ℕ, IfSome, Option}
use Rattle.mmt_outside.specs.Bytes.{Taken}
use Rattle.mmt_outside.specs.Faults.{Rose}
use Rattle.run_status.specs.Flushed.{FlushesAt}
use Rattle.run_status.specs.Taking.{TookOn}
use Rattle.run_status.specs.declared.status.Status.{Status}
use Rattle.run_status.specs.declared.status.Status.TheVariants.{ReadFault, WriteFault}

-- The source: its count of faults did not fall, and a fault of reading is one of its.
pub record LeavesSource (end : Option Status) (reads reads_after : ℕ) : Type 0 where
  pub read : IfSome end (λ status. status ≡ ReadFault → Rose reads reads_after)
  pub later : reads ≤ reads_after

-- The sink: what it had taken is a beginning of what it has then taken, all of it is flushed where the status says so, its count of
-- faults did not fall, and a fault of writing is one of its.
pub record LeavesSink (end : Option Status) (before now : Option Taken) (writes writes_after : ℕ) : Type 0 where
  pub took : TookOn before now
  pub flush : IfSome end (λ status. FlushesAt status now)
  pub write : IfSome end (λ status. status ≡ WriteFault → Rose writes writes_after)
  pub later : writes ≤ writes_after
