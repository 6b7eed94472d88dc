-- Lines and columns of a text, both counted from 1, a column in bytes (this profile).
use Rattle.std.specs.Prelude.{ℕ, List, ◌+◌, ◌==◌, not, take}
use Rattle.std.specs.List.{count_by, suffix_len}
use Rattle.text_meaning.specs.Bytes.{line_feed}
