-- Refusals of a pass, of which a whole begins with what is refused.
use Rattle.std.proofs.Common.{◌≡◌, sym, ap, subst}
use Rattle.answer_meaning.specs.Answers.{◌>>=◌}
use Rattle.link_meaning.specs.Refusals.{Outcome}
use Rattle.link_setting.specs.Answers.{IsFirstRefusal}
use Rattle.link_setting.specs.declared.fault.LinkFault.{LinkFault}
use Rattle.link_setting.specs.declared.fault.LinkFault.TheVariants.{Broken, Memory}

-- The first refusal of a part is that of the whole.
pub refuses_then : {A B : Type 0} (fault : LinkFault) (first : Outcome A) (next : A → Outcome B) → IsFirstRefusal fault first → IsFirstRefusal fault (first >>= next)
refuses_then (Broken refusal) first next h = ap (λ o. o >>= next) h
refuses_then Memory first next h = tt

pub refuses_first : {A B : Type 0} (fault : LinkFault) (first : Outcome A) (next : A → Outcome B) (whole : Outcome B) → whole ≡ (first >>= next) → IsFirstRefusal fault first → IsFirstRefusal fault whole
refuses_first fault first next whole e h = subst (IsFirstRefusal fault) (sym e) (refuses_then fault first next h)
