-- How bytes are cut into lines (this profile).
use Rattle.std.specs.Prelude.{◌≡◌, ℕ, false, List, [], ◌∷◌, ◌-◌, ◌==◌, length, take, slice_index, if◌then◌else◌}
use Rattle.std.specs.Str.Lines.{strip_carriage_return}

-- The byte goes to the front of the first line, or makes a line of its own where there is none.
abbrev pub onto_first : ℕ → List (List ℕ) → List (List ℕ)
onto_first byte [] = (byte ∷ []) ∷ []
onto_first byte (line ∷ lines) = (byte ∷ line) ∷ lines

-- The lines of the bytes, each with the line feed that ends it. What stands behind the last line feed is a line
-- where it is not empty.
unfoldable pub lines_of : List ℕ → List (List ℕ)
lines_of [] = []
lines_of (byte ∷ bytes) =
    if byte == 10 then (byte ∷ []) ∷ lines_of bytes else onto_first byte (lines_of bytes)

-- No byte is a line feed.
abbrev pub NoFeed : List ℕ → Type 0
NoFeed [] = Unit {0}
NoFeed (byte ∷ bytes) = ((byte == 10) ≡ false) × NoFeed bytes

-- The line less the line feed at its end, if it has one.
abbrev pub without_line_feed : List ℕ → List ℕ
without_line_feed line =
    if slice_index line (length line - 1) == 10 then take (length line - 1) line else line

-- The line less its line feed and the carriage return before that. A line without a line feed stays as it is.
abbrev pub content_of : List ℕ → List ℕ
content_of line =
    if slice_index line (length line - 1) == 10 then strip_carriage_return (take (length line - 1) line) else line
