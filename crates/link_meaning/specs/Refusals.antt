-- Refusals: a rule that is broken at a place, with the name of what is concerned (this profile).
use Rattle.std.specs.Prelude.{Bool, true, false, Option, Some, None, Result, Ok, Err, List, [], ◌∷◌, ⊤}
use Rattle.name_meaning.specs.Names.{Path}
use Rattle.text_meaning.specs.Tokens.{Span}
use Rattle.elaborate_meaning.specs.Rules.{Rule}
use Rattle.elaborate_meaning.specs.Answers.{Answer}
use Rattle.answer_meaning.specs.Answers.{◌>>=◌}

-- A rule that is broken, where, and of what.
pub record Refusal : Type 0 where
  pub span : Span
  pub rule : Rule
  pub label : Path

-- A value, or the first refusal.
abbrev pub Outcome : Type 0 → Type 0
Outcome A = Result A Refusal

-- This rule is broken here, with this label.
abbrev pub refused : {A : Type 0} → Span → Rule → Path → Outcome A
refused span rule label = Err (record { span = span; rule = rule; label = label })

-- The answer, its fault with this label.
abbrev pub labelled : {A : Type 0} → Path → Answer A → Outcome A
labelled label (Ok value) = Ok value
labelled label (Err fault) = refused fault.span fault.rule label

-- A test, with the refusal where it fails.
abbrev pub demand : Bool → Span → Rule → Path → Outcome ⊤
demand true span rule label = Ok tt
demand false span rule label = refused span rule label

-- What is there, or the refusal where it is not.
abbrev pub or_refused : {A : Type 0} → Option A → Span → Rule → Path → Outcome A
or_refused None span rule label = refused span rule label
or_refused (Some value) span rule label = Ok value

-- The tests of all of these, in order.
abbrev pub each : {A : Type 0} → (A → Outcome ⊤) → List A → Outcome ⊤
each test [] = Ok tt
each test (item ∷ items) = do
  _ ← test item
  each test items
