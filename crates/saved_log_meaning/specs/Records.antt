-- How an edit is written in a saved log, and which edit a run of bytes begins with (this profile).
use Rattle.std.specs.Prelude.{ℕ, ◌==◌, ◌&&◌, Bool, List, [], ◌∷◌, ◌++◌, length, take, drop, nat_le, Option, Some, None, if◌then◌else◌}
use Rattle.std.specs.Option.{option_and_then}
use Rattle.std.specs.Int.{w32, to_le_bytes, from_le_bytes}
use Rattle.std.specs.Str.{is_utf8}
use Rattle.name_meaning.specs.Identifiers.{is_identifier}
use Rattle.name_meaning.specs.Names.{Name}
use Rattle.edit_log_meaning.specs.Log.{Edit, Put, Drop}

-- Something that was read, and the bytes behind it.
pub record Read (A : Type 0) : Type 0 where
  pub value : A
  pub rest : List ℕ

-- The first bytes, so many, where there are as many.
abbrev pub first_bytes : ℕ → List ℕ → Option (Read (List ℕ))
first_bytes count bytes =
    if nat_le count (length bytes) then Some (record { value = take count bytes; rest = drop count bytes }) else None

-- A piece is written as its length in four bytes, the least one first, and then its own bytes.
abbrev pub piece_bytes : List ℕ → List ℕ
piece_bytes piece = to_le_bytes w32 (length piece) ++ piece

-- The piece of a length that was read.
abbrev pub piece_behind : Read (List ℕ) → Option (Read (List ℕ))
piece_behind size = first_bytes (from_le_bytes w32 size.value) size.rest

-- The piece that the bytes begin with, where it is there as a whole.
abbrev pub piece_of : List ℕ → Option (Read (List ℕ))
piece_of bytes = option_and_then piece_behind (first_bytes 4 bytes)

-- The name can stand in a saved log, as in a script: it is UTF-8 and an identifier.
abbrev pub is_saved_name : Name → Bool
is_saved_name name = is_utf8 name && is_identifier name

-- What was read, if it is such a name.
abbrev pub if_name : Read (List ℕ) → Option (Read Name)
if_name piece = if is_saved_name piece.value then Some piece else None

-- The name that the bytes begin with.
abbrev pub name_of : List ℕ → Option (Read Name)
name_of bytes = option_and_then if_name (piece_of bytes)

-- The edit that puts this text under the name.
abbrev pub put_of : Name → Read (List ℕ) → Option (Read Edit)
put_of name text = Some (record { value = Put name text.value; rest = text.rest })

-- The edit that puts the text behind the name.
abbrev pub put_behind : Read Name → Option (Read Edit)
put_behind name = option_and_then (put_of name.value) (piece_of name.rest)

-- The edit that drops the name.
abbrev pub drop_behind : Read Name → Option (Read Edit)
drop_behind name = Some (record { value = Drop name.value; rest = name.rest })

-- The record that the bytes begin with, where it is there as a whole: a byte for its kind, 0 for a put and 1 for a drop, then the
-- piece of its name, and for a put the piece of its text.
unfoldable pub record_of : List ℕ → Option (Read Edit)
record_of [] = None
record_of (kind ∷ bytes) =
    if kind == 0 then option_and_then put_behind (name_of bytes)
    else (if kind == 1 then option_and_then drop_behind (name_of bytes) else None)

-- The record of an edit.
abbrev pub record_bytes : Edit → List ℕ
record_bytes (Put name text) = 0 ∷ piece_bytes name ++ piece_bytes text
record_bytes (Drop name) = 1 ∷ piece_bytes name

-- How many bytes the record of an edit has.
abbrev pub record_size : Edit → ℕ
record_size edit = length (record_bytes edit)
