-- Counts of faults (this profile). An object of the outside counts the calls that failed, and the count never falls.
use Rattle.std.specs.Prelude.{ℕ, ◌+◌, ◌-◌, ◌^◌, ◌≤◌, min, OnErr, IsErrOf, Result}
use Rattle.mmt_outside.specs.declared.fault.OutFault.{OutFault}
use Rattle.mmt_outside.specs.declared.fault.OutFault.TheVariants.{Failed}

-- The count rose, or it stands at the greatest number of 64 bits.
abbrev pub Rose : ℕ → ℕ → Type 0
Rose before now = min (before + 1) (2 ^ 64 - 1) ≤ now

-- The count has not fallen, and the result is an error only where the count rose.
pub record HasCause {T E : Type 0} (before now : ℕ) (result : Result T E) : Type 0 where
  pub later : before ≤ now
  pub failed : OnErr result (Rose before now)

-- The count has not fallen, and the result is the error `Failed` only where the count rose.
pub record HasCauseOrNoMemory {T : Type 0} (before now : ℕ) (result : Result T OutFault) : Type 0 where
  pub later : before ≤ now
  pub failed : IsErrOf result Failed → Rose before now
