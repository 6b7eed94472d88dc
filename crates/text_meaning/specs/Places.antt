-- Lines and columns of a text, both counted from 1, a column in bytes (this profile).
use Rattle.std.specs.Prelude.{ℕ, List, ◌+◌, ◌==◌, not, take}
use Rattle.std.specs.List.{suffix_len, count_by}

-- One more than the number of line feeds in front of the place.
abbrev pub line_at : List ℕ → ℕ → ℕ
line_at text at = count_by (λ byte. byte == 10) (take at text) + 1

-- One more than the number of bytes between the last line feed in front of the place and the place.
abbrev pub column_at : List ℕ → ℕ → ℕ
column_at text at = suffix_len (λ byte. not (byte == 10)) (take at text) + 1
