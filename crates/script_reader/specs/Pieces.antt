-- What is read of a line from a buffer and a source.
use Rattle.std.specs.Prelude.{◌≡◌, ◌<◌, ◌≤◌, ℕ, Bool, true, false, List, [], ◌∷◌, ◌++◌, length, IfSome}
use Rattle.std.specs.declared.option.Option.{Option}
use Rattle.mmt_outside.specs.Bytes.{preceded}
use Rattle.mmt_outside.specs.Faults.{Rose}
use Rattle.printing_meaning.specs.Lines.{NoFeed}
use Rattle.script_reader.specs.declared.line.LineEnd.{LineEnd}
use Rattle.script_reader.specs.declared.line.LineEnd.TheVariants.{Feed, Input, Limit}
use Rattle.script_reader.specs.declared.fault.ScriptFault.{ScriptFault}
use Rattle.script_reader.specs.declared.fault.ScriptFault.TheVariants.{Bad, Unended, Failed, Spent, Memory}

-- A line feed ends the bytes, and there is no other.
pub record EndsInFeed (bytes : List ℕ) : Type 0 where
  pub front : List ℕ
  pub plain : NoFeed front
  pub is : bytes ≡ front ++ (10 ∷ [])

-- The bytes are a whole line, or a part of one that has no line feed.
abbrev pub IsPart : Bool → List ℕ → Type 0
IsPart true bytes = EndsInFeed bytes
IsPart false bytes = NoFeed bytes

-- A first piece of the buffered bytes went to the end of the line, as far as the first line feed.
pub record MovesFront (before after line now : List ℕ) (whole : Bool) : Type 0 where
  pub piece : List ℕ
  pub grows : now ≡ line ++ piece
  pub shrinks : before ≡ piece ++ after
  pub part : IsPart whole piece
  pub progress : 0 < length before → 0 < length piece

-- How the piece ends: in a line feed; at the end of the input; or without one, where the line has come to a length.
abbrev pub EndsBy : LineEnd → ℕ → List ℕ → List ℕ → Option (List ℕ) → Type 0
EndsBy Feed most now piece after = EndsInFeed piece
EndsBy Input most now piece after = NoFeed piece × IfSome after (λ bytes. bytes ≡ [])
EndsBy Limit most now piece after = NoFeed piece × (most ≤ length now)

-- A piece of the bytes to come went to the end of the line, and so it ends.
pub record ReadsLine (before after : Option (List ℕ)) (line now : List ℕ) (most : ℕ) (end : LineEnd) : Type 0 where
  pub piece : List ℕ
  pub grows : now ≡ line ++ piece
  pub bytes : before ≡ preceded piece after
  pub ends : EndsBy end most now piece after

-- An error of a part of a call is want of memory, or the source failed and its count rose.
abbrev pub IsCaused : ℕ → ℕ → ScriptFault → Type 0
IsCaused before now (Bad line) = ⊥
IsCaused before now (Unended line) = ⊥
IsCaused before now Failed = Rose before now
IsCaused before now Spent = ⊥
IsCaused before now Memory = Unit {0}
