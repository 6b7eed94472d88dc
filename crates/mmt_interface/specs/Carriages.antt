-- What carrying a judgement came to, read off the answer of a call.
use Rattle.std.specs.Prelude.{◌≡◌, Result, Ok, Err, ⊤}
use Rattle.lf_terms.specs.Below.Readings.{read_object, read_family}
use Rattle.judged_meaning.specs.Carrying.{Carriage, CarriedTo, NoSuchView, IllBy}
use Rattle.mmt_syntax.specs.Readings.{read_span}
use Rattle.mmt_interface.specs.ReadRules.{read_rule}
use Rattle.mmt_interface.specs.declared.carried.Carried.{Carried}
use Rattle.mmt_interface.specs.declared.carried.CarryFault.{CarryFault}
use Rattle.mmt_interface.specs.declared.carried.CarryFault.TheVariants.{NoView, Ill, Memory}

-- The fault is what carrying comes to. Want of memory says nothing.
abbrev pub IsCarryFault : CarryFault → Carriage → Type 0
IsCarryFault NoView carriage = carriage ≡ NoSuchView
IsCarryFault (Ill span rule) carriage = carriage ≡ IllBy (record { span = read_span span; rule = read_rule rule })
IsCarryFault Memory carriage = ⊤

-- The call answers what carrying comes to.
abbrev pub IsCarriage : Result Carried CarryFault → Carriage → Type 0
IsCarriage (Ok carried) carriage = carriage ≡ CarriedTo (read_object carried.obj) (read_family carried.fam)
IsCarriage (Err fault) carriage = IsCarryFault fault carriage
