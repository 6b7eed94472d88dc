-- What has a line: all that a judgement can come to but want of memory (this profile).
use Rattle.std.specs.Prelude.{Result, Ok, Err, IsSome, ⊤}
use Rattle.library_meaning.specs.Faces.{Known, view_face}
use Rattle.mmt_interface.specs.declared.carried.Carried.{Carried}
use Rattle.mmt_interface.specs.declared.carried.CarryFault.{CarryFault}
use Rattle.mmt_interface.specs.declared.carried.CarryFault.TheVariants.{NoView, Ill, Memory}

-- The fault is not want of memory.
abbrev pub IsToldFault : CarryFault → Type 0
IsToldFault NoView = ⊤
IsToldFault (Ill span rule) = ⊤
IsToldFault Memory = ⊥

-- What is known of the module is an accepted view, where a judgement was carried along it; and a fault is not want of memory.
abbrev pub HasLine : Known → Result Carried CarryFault → Type 0
HasLine known (Ok carried) = IsSome (view_face known)
HasLine known (Err fault) = IsToldFault fault
