-- Answers that are a value or the first fault, whatever a fault is (this profile).
use Rattle.std.specs.Prelude.{Result, Ok, Err}

infixl 10 ◌>>=◌
-- Go on with the answer, unless it is a fault.
abbrev pub ◌>>=◌ : {E A B : Type 0} → Result A E → (A → Result B E) → Result B E
◌>>=◌ (Err fault) next = Err fault
◌>>=◌ (Ok value) next = next value
