-- Small files and their modules, or their fault.
use Rattle.std.specs.Prelude.{◌≡◌, ℕ, List, [], ◌∷◌, codes}
use Rattle.text_meaning.specs.Grammar.{simple}
use Rattle.text_meaning.specs.Cutting.{lex}
use Rattle.text_meaning.specs.Splitting.{Piece, Pieces, SyntaxFault, UnsupportedFault}
use Rattle.text_meaning.specs.Dividing.{divide}

-- a module with its name's place and its own
abbrev pub piece_at : List ℕ → ℕ → ℕ → ℕ → ℕ → Piece
piece_at name from to start end = record { name = simple (record { from = from; to = to }) name; span = record { from = start; to = end } }

pub record DivisionExamples : Type 0 where
  pub empty : divide (lex []) ≡ Pieces []
  pub two_modules : divide (lex (codes "%sig A = { a : type. }. %view V : A -> A = { a := {x:a} a. }. % end"))
      ≡ Pieces (piece_at (codes "A") 5 6 0 23 ∷ piece_at (codes "V") 30 31 24 61 ∷ [])
  pub no_module : divide (lex (codes "foo")) ≡ SyntaxFault 0
  pub dot_at_top : divide (lex (codes "%sig A = { }. .")) ≡ SyntaxFault 14
  pub include_at_top : divide (lex (codes "%include A.")) ≡ UnsupportedFault 0
  pub mode_at_top : divide (lex (codes "%sig A = { }. %mode")) ≡ UnsupportedFault 14
  pub no_name : divide (lex (codes "%sig A.b = { }.")) ≡ SyntaxFault 5
  pub name_missing : divide (lex (codes "%sig")) ≡ SyntaxFault 4
  pub not_closed : divide (lex (codes "%sig A = { { }. ")) ≡ SyntaxFault 16
  pub no_body : divide (lex (codes "%sig A")) ≡ SyntaxFault 6
  pub no_dot : divide (lex (codes "%sig A = { } a")) ≡ SyntaxFault 13
  pub dot_missing : divide (lex (codes "%sig A = { }")) ≡ SyntaxFault 12
  pub ended_within : divide (lex (codes "%sig A = { %. }.")) ≡ SyntaxFault 11
  pub ended_behind : divide (lex (codes "%sig A = { }. %. foo")) ≡ Pieces (piece_at (codes "A") 5 6 0 13 ∷ [])
  -- whatever stands before the first brace belongs to the module
  pub odd_head : divide (lex (codes "%sig A } %sig = { }.")) ≡ Pieces (piece_at (codes "A") 5 6 0 20 ∷ [])
  pub open_comment : divide (lex (codes "%sig A = { }. %{")) ≡ SyntaxFault 14
