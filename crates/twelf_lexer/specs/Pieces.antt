-- One step of a lexer: over white space or a comment, over a token, or to the end.
use Rattle.std.specs.Prelude.{◌≡◌, ℕ, List, [], drop}
use Rattle.text_meaning.specs.Cut.{Finished, Unclosed}
use Rattle.text_meaning.specs.Cutting.{Between, cut_on}
use Rattle.twelf_lexer.specs.Advances.{Advances}
use Rattle.twelf_lexer.specs.Lexemes.{IsToken}
use Rattle.twelf_lexer.specs.declared.step.Piece.{Piece}
use Rattle.twelf_lexer.specs.declared.step.Piece.TheVariants as pieces
use Rattle.twelf_lexer.specs.declared.step.Step.{Step}

-- What a step tells that comes to a place, by what it found.
abbrev pub Tells : List ℕ → ℕ → ℕ → Piece → Type 0
Tells text at to pieces.Nothing = Advances text at to []
Tells text at to (pieces.Token sign) = IsToken text at to sign
Tells text at to pieces.End = cut_on Between at (drop at text) ≡ record { tokens = []; ending = Finished at }
Tells text at to pieces.Open = cut_on Between at (drop at text) ≡ record { tokens = []; ending = Unclosed at }

abbrev pub IsStep : List ℕ → ℕ → Step → Type 0
IsStep text at s = Tells text at s.to s.piece
