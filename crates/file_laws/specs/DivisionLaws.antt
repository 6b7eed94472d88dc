-- What holds of the division of every file into modules.
use Rattle.std.specs.Prelude.{◌≡◌, ℕ, List}
use Rattle.text_meaning.specs.Cutting.{lex}
use Rattle.text_meaning.specs.Splitting.{Division, FileDivides}
use Rattle.text_meaning.specs.Dividing.{divide}

-- The text of each file divides in exactly one way, which the function gives.
pub record HasOneDivision (text : List ℕ) : Type 0 where
  pub divides : FileDivides text (divide (lex text))
  pub only : (other : Division) → FileDivides text other → other ≡ divide (lex text)

abbrev pub EachFileHasOneDivision : Type 0
EachFileHasOneDivision = (text : List ℕ) → HasOneDivision text
