-- What holds of the answers of a reader.
use Rattle.std.specs.Prelude.{◌≡◌, ℕ, List}
use Rattle.text_meaning.specs.Tokens.{Token}
use Rattle.text_meaning.specs.Cut.{Tokens, IsLexed}
use Rattle.text_meaning.specs.Reading.{Target, Tree, Spells, Answer, IsAnswer, with_end, Reads}
use Rattle.text_meaning.specs.Parsing.{parse}
use Rattle.text_meaning.specs.TextAnswers.{read}

-- Tokens, the end of the input behind them, spell a tree or have exactly one fault, and the function answers it.
pub record HasOneAnswer (target : Target) (ts : List Token) (end : ℕ) : Type 0 where
  pub is_answer : IsAnswer target (with_end ts end) (parse target (with_end ts end))
  pub only : (other : Answer) → IsAnswer target (with_end ts end) other → other ≡ parse target (with_end ts end)

abbrev pub TokensHaveOneAnswer : Type 0
TokensHaveOneAnswer = (target : Target) (ts : List Token) (end : ℕ) → HasOneAnswer target ts end

-- Each text spells a tree or has exactly one fault, and the function answers it.
pub record HasOneReading (target : Target) (text : List ℕ) : Type 0 where
  pub is_read : Reads target text (read target text)
  pub only : (other : Answer) → Reads target text other → other ≡ read target text

abbrev pub EachTextHasOneReading : Type 0
EachTextHasOneReading = (target : Target) (text : List ℕ) → HasOneReading target text

-- The text spells this tree, however deep.
abbrev pub TextSpells : Target → List ℕ → Tree → Type 0
TextSpells target text tree = (ts : List Token) × (end : ℕ) × IsLexed text (Tokens ts end) × Spells target (with_end ts end) tree

-- Two trees of one text are equal.
abbrev pub TextsSpellOneTree : Type 0
TextsSpellOneTree = (target : Target) (text : List ℕ) (t u : Tree) → TextSpells target text t → TextSpells target text u → t ≡ u
