-- What the parts of a record stand for (this profile).
use Rattle.std.specs.Prelude.{ℕ, List, Option, Some, None}
use denote.Ref.{Bor}
use Rattle.name_meaning.specs.Names.{Name}
use Rattle.edit_log_meaning.specs.Log.{Edit, Put, Drop}
use Rattle.saved_log_meaning.specs.Records.{Read}
use Rattle.saved_log.specs.declared.parts.RecordParts.{RecordParts}

-- Bytes that were read, and those behind them.
abbrev pub read_piece : Bor (List ℕ) × Bor (List ℕ) → Read (List ℕ)
read_piece piece = record { value = piece.0.now; rest = piece.1.now }

-- The edit of a name, with the text that is put, if one is.
abbrev pub edit_of : Name → Option (Bor (List ℕ)) → Edit
edit_of name None = Drop name
edit_of name (Some text) = Put name text.now

-- A record that was read.
abbrev pub read_parts : RecordParts → Read Edit
read_parts parts = record { value = edit_of parts.name.now parts.text; rest = parts.rest.now }
