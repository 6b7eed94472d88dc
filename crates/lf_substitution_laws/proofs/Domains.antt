-- Induction on a simple type that gives a property at all domains of the type before the type
-- itself; and functions on simple types that keep their arrows.
use Rattle.std.proofs.Common.{◌≡◌, refl, ap, ap₂, ◌∙◌}
use Rattle.lf_meaning.specs.Terms.{Constant, Simple, Base, Arrow}
use Rattle.lf_meaning.specs.Replacement.{Step, replace}
use Rattle.lf_meaning.specs.Substitution.{substitution, action}
use Rattle.lf_substitution_laws.specs.Uniform.{rename_bases}

-- the property holds at the domain of each arrow that the type ends in
abbrev pub AllDomains : (Simple → Type 0) → Simple → Type 0
AllDomains P (Base c) = Unit {0}
AllDomains P (Arrow s t) = P s × AllDomains P t

pub all_domains : (P : Simple → Type 0) → ((t : Simple) → AllDomains P t → P t) → (t : Simple) → AllDomains P t
all_domains P step (Base c) = tt
all_domains P step (Arrow s t) = (step s (all_domains P step s), all_domains P step t)

pub by_domains : (P : Simple → Type 0) → ((t : Simple) → AllDomains P t → P t) → (t : Simple) → P t
by_domains P step t = step t (all_domains P step t)

pub everywhere : (P : Simple → Type 0) → ((t : Simple) → P t) → (t : Simple) → AllDomains P t
everywhere P h (Base c) = tt
everywhere P h (Arrow s t) = (h s, everywhere P h t)

pub map_domains : (P Q : Simple → Type 0) → ((t : Simple) → P t → Q t) → (t : Simple) → AllDomains P t → AllDomains Q t
map_domains P Q f (Base c) h = tt
map_domains P Q f (Arrow s t) h = (f s h.0, map_domains P Q f t h.1)

-- a function on simple types that keeps arrows and takes bases to bases
pub record IsRetyping (re : Simple → Simple) : Type 0 where
  pub arrow : (s t : Simple) → re (Arrow s t) ≡ Arrow (re s) (re t)
  pub base : (c : Constant) → (d : Constant) × (re (Base c) ≡ Base d)

abbrev pub itself : Simple → Simple
itself t = t

pub itself_retypes : IsRetyping itself
itself_retypes = record { arrow = λ s t. refl; base = λ c. (c, refl) }

pub rename_retypes : (bases : Constant → Constant) → IsRetyping (rename_bases bases)
rename_retypes bases = record { arrow = λ s t. refl; base = λ c. (bases c, refl) }

-- what a value does with its arguments goes by the arrows alone
pub retyped_action : (re : Simple → Simple) → IsRetyping re → (t : Simple) → action (re t) ≡ action t
retyped_action re h (Base c) = ap action ((h.base c).1)
retyped_action re h (Arrow s t) = ap action (h.arrow s t) ∙ ap₂ (λ a b. Step (λ v n m. replace (substitution v a) n m) b) (retyped_action re h s) (retyped_action re h t)
