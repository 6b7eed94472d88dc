-- What a script holds, in order (this profile).
use Rattle.std.specs.Prelude.{ℕ, zero, suc, List, [], ◌∷◌, length}
use Rattle.printing_meaning.specs.Lines.{lines_of}
use Rattle.printing_meaning.specs.ScriptLines.{line_after}
use Rattle.run_meaning.specs.ScriptCommands.{Command, Next, Ends, Gives, Bad, Unended, next_of}

-- A command; or a fault, with the number of its line.
pub data Item : Type 0 where
  Spoken : Command → Item
  BadAt : ℕ → Item
  UnendedAt : ℕ → Item

-- The items of what comes next, those behind a command being given by a function of the lines behind it.
abbrev pub items_by : Next → ℕ → (List (List ℕ) → List Item) → List Item
items_by Ends line behind = []
items_by (Gives command rest) line behind = Spoken command ∷ behind rest
items_by Bad line behind = BadAt line ∷ []
items_by Unended line behind = UnendedAt line ∷ []

-- The first items of the lines, at most so many, where the first line has this number.
unfoldable pub items_within : ℕ → ℕ → List (List ℕ) → List Item
items_within zero line lines = []
items_within (suc more) line lines = items_by (next_of lines) line (λ rest. items_within more (line_after line lines rest) rest)

-- The items of the lines. There are no more of them than lines, since each takes one at least.
abbrev pub items_of : ℕ → List (List ℕ) → List Item
items_of line lines = items_within (length lines) line lines

-- The items of a script. Lines are counted from 1.
unfoldable pub script_of : List ℕ → List Item
script_of bytes = items_of 1 (lines_of bytes)
