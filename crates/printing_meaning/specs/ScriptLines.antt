-- Lines of a script, and the text of a `put` (this profile).
use Rattle.std.specs.Prelude.{ℕ, List, [], ◌∷◌, Option, Some, None, if◌then◌else◌, ◌++◌, Bool, codes, ◌||◌, nat_eq, ◌&&◌, ◌+◌, ◌-◌, ◌^◌, min, length}
use Rattle.std.specs.Str.{bytes_eq, is_utf8}
use Rattle.std.specs.Str.Lines.{strip_carriage_return}
use Rattle.printing_meaning.specs.Lines.{without_line_feed}
use Rattle.std.specs.List.{list_all, starts_with}
use Rattle.name_meaning.specs.Characters.{is_white_space}
use Rattle.name_meaning.specs.Identifiers.{is_identifier}

-- The number of the first line of the rest. Lines are counted from 1; the count stands still at the greatest
-- number of 64 bits.
abbrev pub line_after : ℕ → List (List ℕ) → List (List ℕ) → ℕ
line_after line lines rest = min (line + (length lines - length rest)) (2 ^ 64 - 1)

-- The bytes are a name.
abbrev pub is_name : List ℕ → Bool
is_name bytes = is_utf8 bytes && is_identifier bytes

-- The line consists of white space alone, or begins with `#`.
abbrev pub is_silent : List ℕ → Bool
is_silent content = list_all is_white_space content || starts_with nat_eq content (codes "#")

-- The line ends the text of a `put`.
abbrev pub is_end_line : List ℕ → Bool
is_end_line line = bytes_eq (strip_carriage_return (without_line_feed line)) (codes "%%end")

-- The bytes of the lines in front of the first end line, or of all lines where there is none.
unfoldable pub text_before : List (List ℕ) → List ℕ
text_before [] = []
text_before (line ∷ lines) = if is_end_line line then [] else line ++ text_before lines

-- The lines behind the first end line, if there is one.
unfoldable pub behind_end : List (List ℕ) → Option (List (List ℕ))
behind_end [] = None
behind_end (line ∷ lines) = if is_end_line line then Some lines else behind_end lines
