-- What holds of the cut of every text.
use Rattle.std.specs.Prelude.{◌≡◌, ℕ, List}
use Rattle.text_meaning.specs.Cut.{Lexed, IsLexed}
use Rattle.text_meaning.specs.Cutting.{lex}

-- Each text has tokens or a fault, it has no others, and the function gives it.
pub record HasOneCut (text : List ℕ) : Type 0 where
  pub is_cut : IsLexed text (lex text)
  pub only : (other : Lexed) → IsLexed text other → other ≡ lex text

abbrev pub EachTextHasOneCut : Type 0
EachTextHasOneCut = (text : List ℕ) → HasOneCut text
