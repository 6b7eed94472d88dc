-- What the answers of this crate say, in the words of the definitions.
use Rattle.std.specs.Prelude.{◌≡◌, Result, Ok, Err, ⊤}
use Rattle.elaborate_meaning.specs.Answers.{Answer}
use Rattle.mmt_syntax.specs.Readings.{read_span}
use Rattle.mmt_interface.specs.ReadRules.{read_rule}
use Rattle.translation_meaning.specs.Heads as heads
use Rattle.elaborate.specs.HeadStates.{Stands}
use Rattle.elaborate.specs.declared.heads.Head.{Head}
use Rattle.elaborate.specs.declared.fault.ElabFault.{ElabFault}
use Rattle.elaborate.specs.declared.fault.ElabFault.TheVariants.{Broken, Memory}

-- The fault is that of the definition. Want of memory says nothing.
abbrev pub IsFirstFault : {B : Type 0} → ElabFault → Answer B → Type 0
IsFirstFault (Broken span rule) answer = answer ≡ Err (record { span = read_span span; rule = read_rule rule })
IsFirstFault Memory answer = ⊤

-- The call answers what the definition does: the term that is read off its result, or the first fault.
abbrev pub Expands : {A B : Type 0} → (A → B) → Result A ElabFault → Answer B → Type 0
Expands read (Ok a) answer = answer ≡ Ok (read a)
Expands read (Err fault) answer = IsFirstFault fault answer

-- So does one that has a head, which stands for that of the definition.
abbrev pub Begins : Result Head ElabFault → Answer heads.Head → Type 0
Begins (Ok own) (Ok head) = Stands own head
Begins (Ok own) (Err fault) = ⊥
Begins (Err fault) answer = IsFirstFault fault answer

-- A test passes exactly where the definition's does.
abbrev pub Passes : Result ⊤ ElabFault → Answer ⊤ → Type 0
Passes (Ok passed) answer = answer ≡ Ok tt
Passes (Err fault) answer = IsFirstFault fault answer

-- Where no rule is broken: the result is Ok, or want of memory.
abbrev pub BreaksNothing : {A : Type 0} → Result A ElabFault → Type 0
BreaksNothing (Ok a) = ⊤
BreaksNothing (Err (Broken span rule)) = ⊥
BreaksNothing (Err Memory) = ⊤
