-- How a file is cut into its modules (this profile). Their insides are not read here.
use Rattle.std.specs.Prelude.{◌≡◌, ℕ, suc, Bool, true, false, ◌||◌, List, [], ◌∷◌, ◌++◌}
use Rattle.text_meaning.specs.Tokens.{Span, Kind, Mark, Ident, Token, sign, ident, SigWord, ViewWord, IncludeWord, StructWord, OtherWord, LeftBrace, RightBrace, DotSign, EndSign}
use Rattle.name_meaning.specs.Names.{Name}
use Rattle.text_meaning.specs.Cut.{Lexed, Tokens, NotUtf8, OpenComment, IsLexed}
use Rattle.text_meaning.specs.Trees.{Written}
use Rattle.text_meaning.specs.Grammar.{simple, join}
use Rattle.text_meaning.specs.Reading.{with_end}

-- a module of a file: its name, and the bytes from its first word to its last dot
pub record Piece : Type 0 where
  pub name : Written
  pub span : Span

pub data Division : Type 0 where
  Pieces : List Piece → Division
  SyntaxFault : (at : ℕ) → Division
  UnsupportedFault : (at : ℕ) → Division

-- a piece before a division; a fault stays
abbrev pub before_division : Piece → Division → Division
before_division p (Pieces ps) = Pieces (p ∷ ps)
before_division p (SyntaxFault at) = SyntaxFault at
before_division p (UnsupportedFault at) = UnsupportedFault at

abbrev pub is_left_brace : Kind → Bool
is_left_brace (Mark LeftBrace) = true
is_left_brace _ = false

abbrev pub is_right_brace : Kind → Bool
is_right_brace (Mark RightBrace) = true
is_right_brace _ = false

-- the words that begin a module
pub data IsModuleWord : Kind → Type 0 where
  sig_word : IsModuleWord (Mark SigWord)
  view_word : IsModuleWord (Mark ViewWord)

-- the other percent words
pub data IsOtherPercent : Kind → Type 0 where
  include_word : IsOtherPercent (Mark IncludeWord)
  struct_word : IsOtherPercent (Mark StructWord)
  other_word : IsOtherPercent (Mark OtherWord)

pub data IsSimple : Kind → Type 0 where
  one_name : {n : Name} → IsSimple (Ident (n ∷ []))

-- these tokens close so many braces that are open before them, the last at their end
pub data ClosesBraces : ℕ → List Token → Type 0 where
  all_closed : ClosesBraces 0 []
  opens : {n : ℕ} {s : Span} {ts : List Token} → ClosesBraces (suc (suc n)) ts → ClosesBraces (suc n) (sign s LeftBrace ∷ ts)
  closes : {n : ℕ} {s : Span} {ts : List Token} → ClosesBraces n ts → ClosesBraces (suc n) (sign s RightBrace ∷ ts)
  passes : {n : ℕ} {t : Token} {ts : List Token} → (is_left_brace t.kind || is_right_brace t.kind) ≡ false
      → ClosesBraces (suc n) ts → ClosesBraces (suc n) (t ∷ ts)

-- these tokens end with the brace that closes the first `{` among them
pub data IsEnclosed : List Token → Type 0 where
  enclosed : {s : Span} {ts : List Token} → ClosesBraces 1 ts → IsEnclosed (sign s LeftBrace ∷ ts)
  not_yet : {t : Token} {ts : List Token} → is_left_brace t.kind ≡ false → IsEnclosed ts → IsEnclosed (t ∷ ts)

-- no front of these tokens is so enclosed
abbrev pub IsNeverEnclosed : List Token → Type 0
IsNeverEnclosed ts = (front back : List Token) → ts ≡ front ++ back → ¬ (IsEnclosed front)

-- These tokens of a file, the end of the input behind them, divide into these modules, or have this fault.
pub data Divides : List Token → Division → Type 0 where
  no_more : {z : Span} → Divides (sign z EndSign ∷ []) (Pieces [])
  other_percent : {t : Token} {rest : List Token} → IsOtherPercent t.kind → Divides (t ∷ rest) (UnsupportedFault t.span.from)
  no_module : {t : Token} {rest : List Token} → ¬ (IsOtherPercent t.kind) → ¬ (IsModuleWord t.kind) → ¬ (t.kind ≡ Mark EndSign)
      → Divides (t ∷ rest) (SyntaxFault t.span.from)
  no_name : {w t : Token} {rest : List Token} → IsModuleWord w.kind → ¬ (IsSimple t.kind)
      → Divides (w ∷ t ∷ rest) (SyntaxFault t.span.from)
  never_closed : (body : List Token) (z : Span) {w : Token} {s : Span} {n : Name} → IsModuleWord w.kind → IsNeverEnclosed body
      → Divides (w ∷ ident s (n ∷ []) ∷ (body ++ (sign z EndSign ∷ []))) (SyntaxFault z.from)
  no_dot : (body rest : List Token) (t : Token) {w : Token} {s : Span} {n : Name} → IsModuleWord w.kind → IsEnclosed body → ¬ (t.kind ≡ Mark DotSign)
      → Divides (w ∷ ident s (n ∷ []) ∷ (body ++ (t ∷ rest))) (SyntaxFault t.span.from)
  piece : (body rest : List Token) (d : Span) {w : Token} {s : Span} {n : Name} {o : Division} → IsModuleWord w.kind → IsEnclosed body → Divides rest o
      → Divides (w ∷ ident s (n ∷ []) ∷ (body ++ (sign d DotSign ∷ rest))) (before_division (record { name = simple s n; span = join w.span d }) o)

-- How what a file is cut into divides: the faults of the cut are those of syntax.
abbrev pub IsDivision : Lexed → Division → Type 0
IsDivision (Tokens ts end) d = Divides (with_end ts end) d
IsDivision (NotUtf8 at) d = d ≡ SyntaxFault at
IsDivision (OpenComment at) d = d ≡ SyntaxFault at

-- How the text of a file divides.
abbrev pub FileDivides : List ℕ → Division → Type 0
FileDivides text d = (lexed : Lexed) × IsLexed text lexed × IsDivision lexed d
