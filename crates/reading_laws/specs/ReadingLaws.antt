-- What tokens spell, and what a text is read as.
use Rattle.std.specs.Prelude.{◌≡◌, List}
use Rattle.text_meaning.specs.Tokens.{Token}
use Rattle.text_meaning.specs.Reading.{Target, Tree, Spells}

-- Tokens spell at most one tree.
abbrev pub TreesAreDetermined : Type 0
TreesAreDetermined = (target : Target) (ts : List Token) (t u : Tree) → Spells target ts t → Spells target ts u → t ≡ u
