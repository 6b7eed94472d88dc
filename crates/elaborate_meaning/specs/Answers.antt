-- Answers that are a value or the first fault (this profile).
use Rattle.answer_meaning.specs.Answers.{◌>>=◌}
use Rattle.std.specs.Prelude.{Bool, true, false, Option, Some, None, Result, Ok, Err, ⊤}
use Rattle.text_meaning.specs.Tokens.{Span}
use Rattle.elaborate_meaning.specs.Rules.{Rule}

-- A rule that is broken at a place of the text.
pub record Fault : Type 0 where
  pub span : Span
  pub rule : Rule

-- A value, or the first fault.
abbrev pub Answer : Type 0 → Type 0
Answer A = Result A Fault

-- This rule is broken here.
abbrev pub broken : {A : Type 0} → Span → Rule → Answer A
broken span rule = Err (record { span = span; rule = rule })

-- A test, with the rule that is broken where it fails.
abbrev pub must : Bool → Span → Rule → Answer ⊤
must true span rule = Ok tt
must false span rule = broken span rule

-- What is there, or the rule that is broken where it is not.
abbrev pub or_broken : {A : Type 0} → Option A → Span → Rule → Answer A
or_broken None span rule = broken span rule
or_broken (Some value) span rule = Ok value
