-- What expansion answers, as carrying a judgement tells it.
use Rattle.std.specs.Prelude.{◌≡◌, Result, Ok, Err, ⊤}
use Rattle.elaborate_meaning.specs.Answers.{Answer}
use Rattle.mmt_syntax.specs.Readings.{read_span}
use Rattle.mmt_interface.specs.ReadRules.{read_rule}
use Rattle.mmt_interface.specs.declared.carried.CarryFault.{CarryFault}
use Rattle.mmt_interface.specs.declared.carried.CarryFault.TheVariants.{NoView, Ill, Memory}
use Rattle.elaborate.specs.declared.fault.ElabFault.{ElabFault}
use Rattle.elaborate.specs.declared.fault.ElabFault.TheVariants as expansion

-- The fault of an expression makes the judgement ill.
abbrev pub ill_of : ElabFault → CarryFault
ill_of (expansion.Broken span rule) = Ill span rule
ill_of expansion.Memory = Memory

-- The fault is the first one of the answer. Want of memory says nothing, and that there is no view is none.
abbrev pub IsFirstIll : {B : Type 0} → CarryFault → Answer B → Type 0
IsFirstIll NoView answer = ⊥
IsFirstIll (Ill span rule) answer = answer ≡ Err (record { span = read_span span; rule = read_rule rule })
IsFirstIll Memory answer = ⊤

-- The call answers what expansion does: the term that is read off its result, or the first fault.
abbrev pub Expanded : {A B : Type 0} → (A → B) → Result A CarryFault → Answer B → Type 0
Expanded read (Ok a) answer = answer ≡ Ok (read a)
Expanded read (Err fault) answer = IsFirstIll fault answer
