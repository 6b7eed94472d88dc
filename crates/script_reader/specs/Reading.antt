-- A script that is being read.
use Rattle.std.specs.Prelude.{ℕ, Bool, List}
use Rattle.std.specs.declared.option.Option.{Option}
use Rattle.mmt_outside.specs.Bytes.{preceded}

-- What is seen of a script: the bytes that were read and not used yet, the number of the next line, and whether an
-- error was answered.
pub record Reading : Type 0 where
  pub buffered : List ℕ
  pub line : ℕ
  pub is_spent : Bool

-- The bytes to come, where the source tells those that it has left.
abbrev pub to_come : Reading → Option (List ℕ) → Option (List ℕ)
to_come reading left = preceded reading.buffered left
