-- What holds of answers.
use Rattle.std.proofs.Common.{◌≡◌, Result, Ok, Err, sym, subst}
use Rattle.std.specs.Result.{IfOk}

-- What holds of a value holds of an answer that is that value.
pub made_is : {A E : Type 0} (P : A → Type 0) (r : Result A E) (made : A) → IfOk r (λ a. a ≡ made) → P made → IfOk r P
made_is P (Ok a) made is h = subst P (sym is) h
made_is P (Err fault) made is h = tt
