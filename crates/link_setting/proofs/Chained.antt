-- Answers of links, step by step: the first refusal of a part is that of the whole, and what passes goes on.
use Rattle.std.proofs.Common.{◌≡◌, Result, Ok, Err, sym, ◌∙◌, subst}
use Rattle.answer_meaning.specs.Answers.{◌>>=◌}
use Rattle.link_meaning.specs.Refusals.{Outcome}
use Rattle.link_setting.specs.Answers.{IsFirstRefusal, Links, RefusesNothing}
use Rattle.link_setting.specs.declared.fault.LinkFault.{LinkFault}
use Rattle.link_setting.specs.declared.fault.LinkFault.TheVariants as faults

pub same_fault : {B : Type 0} (fault : LinkFault) (a b : Outcome B) → b ≡ a → IsFirstRefusal fault a → IsFirstRefusal fault b
same_fault fault a b same h = subst (IsFirstRefusal fault) (sym same) h

-- What answers a part's next step answers the whole, where the part passes.
pub goes_on : {A B C : Type 0} (read : A → B) (result : Result A LinkFault) (m : Outcome C) (item : C) (f : C → Outcome B) → m ≡ Ok item → Links read result (f item) → Links read result (m >>= f)
goes_on read result m item f is h = subst (λ n. Links read result (n >>= f)) (sym is) h

pub same_answer : {A B : Type 0} (read : A → B) (result : Result A LinkFault) (a b : Outcome B) → b ≡ a → Links read result a → Links read result b
same_answer read result a b same h = subst (Links read result) (sym same) h

-- Where the definition answers a value nothing is refused.
pub refuses_nothing : (A : Type 0) {B : Type 0} (fault : LinkFault) (m : Outcome B) (value : B) → m ≡ Ok value → IsFirstRefusal fault m → RefusesNothing {A = A} (Err fault)
refuses_nothing A (faults.Broken refusal) m value is h = absurd (let both = sym is ∙ h in cc)
refuses_nothing A faults.Memory m value is h = tt
