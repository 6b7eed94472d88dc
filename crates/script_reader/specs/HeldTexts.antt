-- A text of which the first bytes are kept.
use Rattle.std.specs.Prelude.{ℕ, List, ◌++◌, ◌+◌, ◌-◌, ◌^◌, length, min}
use Rattle.run_meaning.specs.ScriptCommands.{kept}

-- What is kept of a text, and the length of all of it.
pub record Held : Type 0 where
  pub kept : List ℕ
  pub total : ℕ

-- So a text is held. Its length stands still at the greatest number of 64 bits.
abbrev pub held_of : List ℕ → Held
held_of text = record { kept = kept text; total = min (length text) (2 ^ 64 - 1) }

-- The text goes on with a piece.
abbrev pub more : Held → List ℕ → Held
more held piece = record { kept = kept (held.kept ++ piece); total = min (held.total + length piece) (2 ^ 64 - 1) }
