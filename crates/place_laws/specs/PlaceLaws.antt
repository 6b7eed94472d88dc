-- What is read stands within its text (this profile).
use Rattle.std.specs.Prelude.{ℕ, List, length}
use Rattle.text_meaning.specs.Reading.{Target}
use Rattle.text_meaning.specs.TextAnswers.{read}
use Rattle.span_meaning.specs.Spans.{AnswerStands}

-- Each span of the tree that a text is read as lies within it; if it does not read, the place is not past its end.
abbrev pub ReadingStandsWithin : Type 0
ReadingStandsWithin = (target : Target) (text : List ℕ) → AnswerStands (length text) (read target text)
