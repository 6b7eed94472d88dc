-- How worked cases are stated: texts are put into a library, and the verdict on one of them is told.
use Rattle.std.specs.Prelude.{ℕ, List, [], ◌∷◌, ◌++◌, Option, Some, None, map, length, fold}
use Rattle.lf_meaning.specs.Signatures.{Signature}
use Rattle.name_meaning.specs.Names.{Name, Text}
use Rattle.edit_log_meaning.specs.Log.{Module, Library, with_module, without_module}
use Rattle.elaborate_meaning.specs.Rules.{Rule}
use Rattle.verdict_meaning.specs.Verdicts.{Verdict, Accepted, Refused, Theory, View}
use Rattle.verdict_meaning.specs.Rounds.{verdict_of}
use Rattle.text_meaning.specs.Places.{line_at, column_at}

-- What is told of a verdict: a number of declarations; a number of constants; or a line and a column, counted from 1, a
-- rule and a label.
pub data Told : Type 0 where
  TheoryOf : ℕ → Told
  ViewOf : ℕ → Told
  RefusedAt : (line column : ℕ) → Rule → List Name → Told
  Absent : Told

-- What is told of a verdict on this text.
abbrev pub told : Text → Option Verdict → Told
told text None = Absent
told text (Some (Accepted (Theory face size))) = TheoryOf size
told text (Some (Accepted (View face))) = ViewOf (length face.map)
told text (Some (Refused refusal)) = RefusedAt (line_at text refusal.span.from) (column_at text refusal.span.from) refusal.rule refusal.label

-- A module with its name and its text.
abbrev pub under : Name → Text → Module
under name text = record { name = name; text = text }

-- The library of these texts, each put in its turn.
abbrev pub library_with : List Module → Library
library_with texts = fold (λ (library : Library) (own : Module). with_module own.name own.text library) [] texts

-- What is told of a text that is put behind these.
abbrev pub told_of : List Module → Name → Text → Told
told_of texts name text = told text (verdict_of (library_with (texts ++ under name text ∷ [])) name)

-- What a check tells of a library: its names in byte order, each with what is told of its verdict.
abbrev pub told_by_check : Library → List (Name × Told)
told_by_check library = map (λ (own : Module). (own.name, told own.text (verdict_of library own.name))) library

-- What is told of a name, with this text, after the texts were put and another name was dropped.
abbrev pub told_after_drop : List Module → Name → Name → Text → Told
told_after_drop texts dropped name text = told text (verdict_of (without_module dropped (library_with texts)) name)

-- The own constants of an accepted theory; of another module none.
abbrev pub own_of_verdict : Option Verdict → Signature
own_of_verdict None = []
own_of_verdict (Some (Accepted (Theory face size))) = face.own
own_of_verdict (Some (Accepted (View face))) = []
own_of_verdict (Some (Refused refusal)) = []
