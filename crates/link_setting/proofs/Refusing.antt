-- Refusals that are handed on.
use Rattle.std.proofs.Common.{◌≡◌, Result, sym, ap, ◌∙◌, subst}
use Rattle.answer_meaning.specs.Answers.{◌>>=◌}
use Rattle.link_meaning.specs.Refusals.{Outcome}
use Rattle.link_setting.specs.Answers.{IsFirstRefusal, Links}
use Rattle.link_setting.specs.declared.fault.LinkFault.{LinkFault}
use Rattle.link_setting.specs.declared.fault.LinkFault.TheVariants.{Broken, Memory}

-- What refuses first refuses the whole.
pub refuses_first : {A B : Type 0} (fault : LinkFault) (first : Outcome A) (next : A → Outcome B) (whole : Outcome B) → first >>= next ≡ whole → IsFirstRefusal fault first → IsFirstRefusal fault whole
refuses_first (Broken refusal) first next whole e h = sym e ∙ ap (λ o. o >>= next) h
refuses_first Memory first next whole e h = tt

pub refuses_same : {B : Type 0} (fault : LinkFault) (outcome whole : Outcome B) → outcome ≡ whole → IsFirstRefusal fault outcome → IsFirstRefusal fault whole
refuses_same fault outcome whole e h = subst (IsFirstRefusal fault) e h

-- What goes on answers the whole.
pub links_same : {A B : Type 0} (read : A → B) (result : Result A LinkFault) (outcome whole : Outcome B) → outcome ≡ whole → Links read result outcome → Links read result whole
links_same read result outcome whole e h = subst (Links read result) e h
