-- What a splitter of files comes to.
use Rattle.std.specs.Prelude.{◌≡◌, ℕ, List, [], ◌++◌, map, Option, Some, None, Result, Ok, Err}
use Rattle.text_meaning.specs.Tokens.{Span, Token}
use Rattle.text_meaning.specs.Trees.{Written}
use Rattle.text_meaning.specs.Grammar.{join}
use Rattle.text_meaning.specs.Splitting as splitting
use Rattle.text_meaning.specs.Splitting.{Division, Pieces, SyntaxFault, UnsupportedFault, FileDivides, before_division}
use Rattle.text_meaning.specs.Dividing.{Stand, AtTop, AtDot, InBody, divide_on}
use Rattle.mmt_syntax.specs.Readings.{read_span, read_written}
use Rattle.twelf_expressions.specs.declared.fault.ReadFault.{ReadFault}
use Rattle.twelf_expressions.specs.declared.fault.ReadFault.TheVariants as faults
use Rattle.twelf_reader.specs.declared.file.Piece.{Piece}

abbrev pub read_piece : Piece → splitting.Piece
read_piece p = record { name = read_written p.name; span = read_span p.span }

abbrev pub read_pieces : List Piece → List splitting.Piece
read_pieces = map read_piece

-- The fault is this division. Nothing of a file is too deep, and want of memory says nothing of it.
abbrev pub FailsSo : ReadFault → Division → Type 0
FailsSo (faults.Syntax at) division = division ≡ SyntaxFault at
FailsSo (faults.Unsupported at) division = division ≡ UnsupportedFault at
FailsSo (faults.TooDeep at) division = ⊥
FailsSo faults.Memory division = Unit {0}

-- The division goes on as the function says of the value, or it is the fault.
abbrev pub DividesSo : {X : Type 0} → Division → Result X ReadFault → (X → Division) → Type 0
DividesSo division (Ok x) next = division ≡ next x
DividesSo division (Err f) next = FailsSo f division

-- The file has this fault.
abbrev pub IsFileFault : List ℕ → ReadFault → Type 0
IsFileFault text (faults.Syntax at) = FileDivides text (SyntaxFault at)
IsFileFault text (faults.Unsupported at) = FileDivides text (UnsupportedFault at)
IsFileFault text (faults.TooDeep at) = ⊥
IsFileFault text faults.Memory = Unit {0}

-- several modules before a division
abbrev pub pieces_before : List splitting.Piece → Division → Division
pieces_before ps (Pieces qs) = Pieces (ps ++ qs)
pieces_before ps (SyntaxFault at) = SyntaxFault at
pieces_before ps (UnsupportedFault at) = UnsupportedFault at

-- behind a module, or at the end of the input
abbrev pub next_piece : Option Piece → List Token → Division
next_piece None ts = Pieces []
next_piece (Some p) ts = before_division (read_piece p) (divide_on AtTop ts)

-- in a body with so many further braces open, or behind it
abbrev pub in_body : Span → Written → Option ℕ → Stand
in_body word name (Some inner) = InBody word name inner 0
in_body word name None = AtDot word name

-- behind the dot of a module
abbrev pub behind_dot : Span → Written → Span → List Token → Division
behind_dot word name dot ts = before_division (record { name = name; span = join word dot }) (divide_on AtTop ts)
