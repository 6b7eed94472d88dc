-- What carrying a judgement came to (this profile).
use Rattle.std.specs.Prelude.{Bool, true, false, Result, Ok, Err}
use Rattle.mmt_interface.specs.declared.carried.Carried.{Carried}
use Rattle.mmt_interface.specs.declared.carried.CarryFault.{CarryFault}
use Rattle.mmt_interface.specs.declared.carried.CarryFault.TheVariants.{NoView, Ill, Memory}

-- Memory was wanting.
abbrev pub is_memory : Result Carried CarryFault → Bool
is_memory (Ok carried) = false
is_memory (Err NoView) = false
is_memory (Err (Ill span rule)) = false
is_memory (Err Memory) = true
