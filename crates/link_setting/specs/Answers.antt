-- What the answers of the crates of links say, in the words of the definitions.
use Rattle.std.specs.Prelude.{◌≡◌, Result, Ok, Err, ⊤}
use Rattle.link_meaning.specs.Refusals.{Outcome}
use Rattle.mmt_interface.specs.Readings.{read_refusal}
use Rattle.link_setting.specs.declared.fault.LinkFault.{LinkFault}
use Rattle.link_setting.specs.declared.fault.LinkFault.TheVariants.{Broken, Memory}

-- The fault is the refusal of the definition. Want of memory says nothing.
abbrev pub IsFirstRefusal : {B : Type 0} → LinkFault → Outcome B → Type 0
IsFirstRefusal (Broken refusal) outcome = outcome ≡ Err (read_refusal refusal)
IsFirstRefusal Memory outcome = ⊤

-- The call answers what the definition does: what is read off its result, or the first refusal.
abbrev pub Links : {A B : Type 0} → (A → B) → Result A LinkFault → Outcome B → Type 0
Links read (Ok a) outcome = outcome ≡ Ok (read a)
Links read (Err fault) outcome = IsFirstRefusal fault outcome

-- Where nothing is refused: the result is Ok, or want of memory.
abbrev pub RefusesNothing : {A : Type 0} → Result A LinkFault → Type 0
RefusesNothing (Ok a) = ⊤
RefusesNothing (Err (Broken refusal)) = ⊥
RefusesNothing (Err Memory) = ⊤
