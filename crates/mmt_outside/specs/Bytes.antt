-- The bytes that a source has left and those that a sink has taken (this profile). An object need not tell them: `None`.
use Rattle.std.specs.Prelude.{◌≡◌, ◌↔◌, ◌≤◌, ℕ, List, [], ◌++◌, length, take, IfSome, None, Some}
use Rattle.std.specs.declared.option.Option.{Option}

-- What is told of the bytes left before some bytes were read, where this is told after it: those bytes, and then the rest.
abbrev pub preceded : List ℕ → Option (List ℕ) → Option (List ℕ)
preceded bytes None = None
preceded bytes (Some rest) = Some (bytes ++ rest)

-- Where bytes left are told, none was read exactly where none was left.
abbrev pub IsEndOfInput : Option (List ℕ) → ℕ → Type 0
IsEndOfInput left count = IfSome left (λ bytes. (count ≡ 0) ↔ (bytes ≡ []))

-- Of the bytes left a first part was read, which may be none or all of them; where they are told, they still are.
pub record ReadPrefix (before now : Option (List ℕ)) : Type 0 where
  pub piece : List ℕ
  pub read : before ≡ preceded piece now

-- What a sink tells: the bytes taken, and how many of them its last flush without an error covered.
pub record Taken : Type 0 where
  pub bytes : List ℕ
  pub flushed : ℕ

-- What a sink tells after it took further bytes.
abbrev pub appended : Option Taken → List ℕ → Option Taken
appended None piece = None
appended (Some taken) piece = Some (record { bytes = taken.bytes ++ piece; flushed = taken.flushed })

-- What a sink tells after a flush without an error, which covers all bytes taken.
abbrev pub flushed : Option Taken → Option Taken
flushed None = None
flushed (Some taken) = Some (record { bytes = taken.bytes; flushed = length taken.bytes })

-- The sink took a first part of the piece, which may be none or all of it.
pub record TookPrefix (before now : Option Taken) (piece : List ℕ) : Type 0 where
  pub count : ℕ
  pub within : count ≤ length piece
  pub took : now ≡ appended before (take count piece)
