-- Answers whose faults have a property, put together from their parts.
use Rattle.std.proofs.Common.{◌≡◌, Bool, true, false, List, [], ◌∷◌, ◌++◌, nat_eq, Option, Some, None, Ok, Err, inl, inr, refl}
use Rattle.std.specs.Prelude.{⊤}
use Rattle.name_meaning.specs.Names.{Path}
use Rattle.list_laws.proofs.Members.{Member, any_found, any_of, append_left}
use Rattle.text_meaning.specs.Tokens.{Span}
use Rattle.elaborate_meaning.specs.Rules.{Rule, number_of}
use Rattle.elaborate_meaning.specs.Answers.{Answer, must, or_broken}
use Rattle.answer_meaning.specs.Answers.{◌>>=◌}
use Rattle.link_meaning.specs.Refusals.{Outcome, labelled, demand, or_refused, each}
use Rattle.fault_laws.specs.RulesBroken.{IsOneOf, Tells, Refuses}

-- more rules
pub more_rules : (rules more : List Rule) (rule : Rule) → IsOneOf rules rule → IsOneOf (rules ++ more) rule
more_rules rules more rule h =
    let p = λ (other : Rule). nat_eq (number_of other) (number_of rule) in
    let f = any_found p rules h in
    any_of p (rules ++ more) f.0 (append_left rules more f.0 f.1) f.2

module _ (P : Span → Type 0) (rules : List Rule) where
  abbrev Told : {A : Type 0} → Answer A → Type 0
  Told answer = Tells P rules answer

  abbrev Refused : {A : Type 0} → Outcome A → Type 0
  Refused outcome = Refuses P rules outcome

  pub tells_then : {A B : Type 0} (first : Answer A) (next : A → Answer B) → Told first → ((value : A) → Told (next value)) → Told (first >>= next)
  tells_then (Ok value) next h g = g value
  tells_then (Err fault) next h g = h

  pub refuses_then : {A B : Type 0} (first : Outcome A) (next : A → Outcome B) → Refused first → ((value : A) → first ≡ Ok value → Refused (next value)) → Refused (first >>= next)
  refuses_then (Ok value) next h g = g value refl
  refuses_then (Err refusal) next h g = h

  pub tells_test : (b : Bool) (span : Span) (rule : Rule) → P span → IsOneOf rules rule → Told (must b span rule)
  tells_test true span rule h g = tt
  tells_test false span rule h g = (h, g)

  pub tells_there : {A : Type 0} (o : Option A) (span : Span) (rule : Rule) → P span → IsOneOf rules rule → Told (or_broken o span rule)
  tells_there (Some value) span rule h g = tt
  tells_there None span rule h g = (h, g)

  pub refuses_test : (b : Bool) (span : Span) (rule : Rule) (label : Path) → P span → IsOneOf rules rule → Refused (demand b span rule label)
  refuses_test true span rule label h g = tt
  refuses_test false span rule label h g = (h, g)

  pub refuses_there : {A : Type 0} (o : Option A) (span : Span) (rule : Rule) (label : Path) → P span → IsOneOf rules rule → Refused (or_refused o span rule label)
  refuses_there (Some value) span rule label h g = tt
  refuses_there None span rule label h g = (h, g)

  pub refuses_each : {A : Type 0} (test : A → Outcome ⊤) (xs : List A) → ((x : A) → Member x xs → Refused (test x)) → Refused (each test xs)
  refuses_each test [] f = tt
  refuses_each test (x ∷ xs) f = refuses_then (test x) (λ done. each test xs) (f x (inl refl)) (λ done e. refuses_each test xs (λ y m. f y (inr m)))

-- with a label, and with more rules
pub refuses_labelled : {A : Type 0} (P : Span → Type 0) (rules more : List Rule) (label : Path) (answer : Answer A) → Tells P rules answer → Refuses P (rules ++ more) (labelled label answer)
refuses_labelled P rules more label (Ok value) h = tt
refuses_labelled P rules more label (Err fault) h = (h.0, more_rules rules more fault.rule h.1)

pub refuses_more : {A : Type 0} (P : Span → Type 0) (rules more : List Rule) (outcome : Outcome A) → Refuses P rules outcome → Refuses P (rules ++ more) outcome
refuses_more P rules more (Ok value) h = tt
refuses_more P rules more (Err refusal) h = (h.0, more_rules rules more refusal.rule h.1)
