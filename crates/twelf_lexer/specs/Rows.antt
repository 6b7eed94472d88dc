-- Rows of runs.
use Rattle.std.specs.Prelude.{◌≡◌, ℕ, ◌+◌, ◌≤◌, Bool, true, false, List, [], ◌∷◌, ◌++◌, length, drop, nat_lt, ◌==◌, ◌&&◌}
use Rattle.std.specs.List.{list_any}
use Rattle.name_meaning.specs.Identifiers.{is_reserved}
use Rattle.name_meaning.specs.Characters.{is_identifier_byte}
use Rattle.text_meaning.specs.Bytes.{dot, begins}
use Rattle.text_meaning.specs.Tokens.{spelled}
use Rattle.text_meaning.specs.Cut.{is_row, ends_row}
use Rattle.twelf_lexer.specs.declared.row.RowEnd.{RowEnd}

-- from one place of a text up to another these runs stand, joined by single dots
pub record IsRow (text : List ℕ) (at to : ℕ) (words : List (List ℕ)) : Type 0 where
  pub within : to ≤ length text
  pub length_is : to ≡ at + length (spelled words)
  pub parts : drop at text ≡ spelled words ++ drop to text
  pub runs : is_row words ≡ true

-- the longest row from a place on, whether it has several runs, and whether one of them is reserved
pub record IsLongestRow (text : List ℕ) (at : ℕ) (r : RowEnd) : Type 0 where
  pub words : List (List ℕ)
  pub is_row : IsRow text at r.to words
  pub ends : ends_row (drop r.to text) ≡ true
  pub several : r.several ≡ nat_lt 1 (length words)
  pub reserved : r.reserved ≡ list_any is_reserved words

-- a row that stands before these bytes goes on with a dot and an identifier byte
abbrev pub row_goes_on : List ℕ → Bool
row_goes_on [] = false
row_goes_on (b ∷ bs) = b == dot && begins is_identifier_byte bs
