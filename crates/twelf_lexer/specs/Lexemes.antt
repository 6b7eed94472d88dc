-- What stands at a place of a text: a token, or the end of all tokens.
use Rattle.std.specs.Prelude.{◌≡◌, ℕ, ◌+◌, ◌≤◌, ◌<◌, Bool, true, false, List, [], ◌∷◌, ◌++◌, length, drop, nat_lt, ◌==◌, IsCharBoundary, Some, if◌then◌else◌}
use Rattle.std.specs.List.{slice_range, list_any}
use Rattle.name_meaning.specs.Identifiers.{is_identifier, is_reserved}
use Rattle.text_meaning.specs.Bytes.{dot}
use Rattle.text_meaning.specs.Tokens.{Kind, Mark, Ident, token, percent_sign, run_kind, SigWord, ViewWord, IncludeWord, StructWord, OtherWord, Stray, AssignSign, ColonSign, LeftParen, RightParen, LeftBracket, RightBracket, LeftBrace, RightBrace, DotSign, TypeWord, ArrowSign, BackSign, EqualSign, BlankSign, EndSign}
use Rattle.text_meaning.specs.Tokens as tokens
use Rattle.text_meaning.specs.Cut.{Finished, Unclosed, bracket_sign, ends_row}
use Rattle.text_meaning.specs.Cutting.{Between, Cutting, ahead, cut_on}
use Rattle.twelf_lexer.specs.declared.sign.PercentWord.{PercentWord}
use Rattle.twelf_lexer.specs.declared.sign.PercentWord.TheVariants as words
use Rattle.twelf_lexer.specs.declared.sign.Sign.{Sign}
use Rattle.twelf_lexer.specs.declared.sign.Sign.TheVariants as signs
use Rattle.twelf_lexer.specs.declared.sign.Lexeme.{Lexeme}
use Rattle.twelf_lexer.specs.Rows.{IsRow}
use Rattle.twelf_lexer.specs.Advances.{Advances}

-- the sign that a percent word is
abbrev pub word_mark : PercentWord → tokens.Sign
word_mark words.Sig = SigWord
word_mark words.View = ViewWord
word_mark words.Include = IncludeWord
word_mark words.Struct = StructWord
word_mark words.Other = OtherWord

-- The sign that a token is which is no identifier. Where a comment has no end, a reader meets a byte that no token begins with.
abbrev pub mark_of : Sign → tokens.Sign
mark_of (signs.Percent w) = word_mark w
mark_of signs.Stray = Stray
mark_of signs.Assign = AssignSign
mark_of signs.Colon = ColonSign
mark_of signs.LParen = LeftParen
mark_of signs.RParen = RightParen
mark_of signs.LBracket = LeftBracket
mark_of signs.RBracket = RightBracket
mark_of signs.LBrace = LeftBrace
mark_of signs.RBrace = RightBrace
mark_of signs.Dot = DotSign
mark_of signs.TypeWord = TypeWord
mark_of signs.Arrow = ArrowSign
mark_of signs.BackArrow = BackSign
mark_of signs.Equal = EqualSign
mark_of signs.Blank = BlankSign
mark_of signs.Name = Stray
mark_of signs.Path = Stray
mark_of signs.End = EndSign
mark_of signs.OpenComment = Stray

-- no token stands there
abbrev pub is_last : Sign → Bool
is_last signs.End = true
is_last signs.OpenComment = true
is_last _ = false

-- an identifier stands there
abbrev pub is_names : Sign → Bool
is_names signs.Name = true
is_names signs.Path = true
is_names _ = false

-- the bytes between the dots of a row, behind these bytes of the first run
abbrev pub runs_behind : List ℕ → List ℕ → List (List ℕ)
runs_behind run [] = run ∷ []
runs_behind run (b ∷ bs) = if b == dot then run ∷ runs_behind [] bs else runs_behind (run ++ (b ∷ [])) bs

abbrev pub runs : List ℕ → List (List ℕ)
runs bs = runs_behind [] bs

-- what stands from one place of a text up to another, by its sign
abbrev pub sign_kind : List ℕ → ℕ → ℕ → Sign → Kind
sign_kind text from to signs.Name = Ident (slice_range text from to ∷ [])
sign_kind text from to signs.Path = Ident (runs (slice_range text from to))
sign_kind text from to sign = Mark (mark_of sign)

abbrev pub lexeme_token : List ℕ → Lexeme → tokens.Token
lexeme_token text l = token l.span.from l.span.to (sign_kind text l.span.from l.span.to l.sign)

-- From one place of a text up to another stands an identifier of several names.
pub record IsSeveral (text : List ℕ) (from to : ℕ) : Type 0 where
  pub start : IsCharBoundary text from
  pub is_row : IsRow text from to (runs (slice_range text from to))
  pub free : list_any is_reserved (runs (slice_range text from to)) ≡ false
  pub ends : ends_row (drop to text) ≡ true
  pub several : nat_lt 1 (length (runs (slice_range text from to))) ≡ true

-- From one place of a text up to another stands a name.
pub record IsOne (text : List ℕ) (from to : ℕ) : Type 0 where
  pub start : IsCharBoundary text from
  pub identifier : is_identifier (slice_range text from to) ≡ true

-- what more a sign tells of the bytes
abbrev pub Parts : List ℕ → ℕ → ℕ → Sign → Type 0
Parts text from to signs.Name = IsOne text from to
Parts text from to signs.Path = IsSeveral text from to
Parts text from to (signs.Percent w) = percent_sign (slice_range text (from + 1) to) ≡ word_mark w
Parts text from to _ = Unit {0}

-- Over a token of this sign the cut comes from one place to another.
pub record IsToken (text : List ℕ) (from to : ℕ) (sign : Sign) : Type 0 where
  pub advances : Advances text from to (token from to (sign_kind text from to sign) ∷ [])
  pub parts : Parts text from to sign
  pub more : is_last sign ≡ false

-- A lexeme stands in a text.
pub record IsLexeme (text : List ℕ) (l : Lexeme) : Type 0 where
  pub forward : l.span.from ≤ l.span.to
  pub moves : is_last l.sign ≡ false → l.span.from < l.span.to
  pub still : is_last l.sign ≡ true → l.span.to ≡ l.span.from
  pub within : l.span.to ≤ length text
  pub boundary : IsCharBoundary text l.span.to
  pub parts : Parts text l.span.from l.span.to l.sign

-- The sign is this mark, wherever it stands.
pub record IsMark (sign : Sign) (m : tokens.Sign) : Type 0 where
  pub kind : (text : List ℕ) (from to : ℕ) → sign_kind text from to sign ≡ Mark m
  pub parts : (text : List ℕ) (from to : ℕ) → Parts text from to sign
  pub more : is_last sign ≡ false

-- The sign is that of a bracket.
abbrev pub IsBracket : ℕ → Sign → Type 0
IsBracket byte sign = (m : tokens.Sign) × (bracket_sign byte ≡ Some m) × IsMark sign m

-- The sign is that of a reserved word.
abbrev pub IsReserved : List ℕ → Sign → Type 0
IsReserved run sign = ((text : List ℕ) (from to : ℕ) → sign_kind text from to sign ≡ run_kind run) × ((text : List ℕ) (from to : ℕ) → Parts text from to sign) × (is_last sign ≡ false)

-- the cut of a text from a place on, by what stands next
abbrev pub cut_behind : List ℕ → ℕ → ℕ → Sign → Cutting
cut_behind text from to signs.End = record { tokens = []; ending = Finished from }
cut_behind text from to signs.OpenComment = record { tokens = []; ending = Unclosed from }
cut_behind text from to sign = ahead (token from to (sign_kind text from to sign) ∷ []) (cut_on Between to (drop to text))

abbrev pub cut_from : List ℕ → Lexeme → Cutting
cut_from text l = cut_behind text l.span.from l.span.to l.sign
