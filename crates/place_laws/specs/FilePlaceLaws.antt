-- Lines and columns in a file, from those of a place in a text that stands in it (this profile).
use Rattle.std.specs.Prelude.{◌≡◌, ℕ, ◌+◌, ◌<◌, ◌≤◌, List, length, take, drop}
use Rattle.text_meaning.specs.Places.{line_at, column_at}

-- Lines are counted on from the line on which the text begins.
abbrev pub LinesGoOn : Type 0
LinesGoOn =
    (file : List ℕ) (first size at : ℕ) → first ≤ length file → at ≤ size
    → line_at file (first + at) + 1 ≡ line_at file first + line_at (take size (drop first file)) at

-- So are columns on the text's first line; on its other lines they are the same in both.
abbrev pub ColumnsGoOn : Type 0
ColumnsGoOn =
    (file : List ℕ) (first size at : ℕ) → first ≤ length file → at ≤ size → line_at (take size (drop first file)) at ≡ 1
    → column_at file (first + at) + 1 ≡ column_at file first + column_at (take size (drop first file)) at

abbrev pub ColumnsAreTheSame : Type 0
ColumnsAreTheSame =
    (file : List ℕ) (first size at : ℕ) → first ≤ length file → at ≤ size → 1 < line_at (take size (drop first file)) at
    → column_at file (first + at) ≡ column_at (take size (drop first file)) at
