-- A text of tokens with a byte of white space behind each is cut into these tokens: what a printer rests on.
use Rattle.std.specs.Prelude.{◌≡◌, ℕ, ◌+◌, true, List, [], ◌∷◌, ◌++◌, Some, length}
use Rattle.name_meaning.specs.Characters.{is_white_space}
use Rattle.name_meaning.specs.Identifiers.{is_run}
use Rattle.text_meaning.specs.Bytes.{percent, dot, colon, equal}
use Rattle.text_meaning.specs.Tokens.{Kind, Mark, Sign, Token, token, AssignSign, ColonSign, DotSign, percent_sign, row_kind, spelled}
use Rattle.text_meaning.specs.Cut.{Cut, Finished, bracket_sign, is_row}

-- These bytes are a token of this kind, and not a stray percent sign, behind which white space would begin a comment.
pub data IsPrintable : Kind → List ℕ → Type 0 where
  print_percent : {word : List ℕ} → is_run word ≡ true → IsPrintable (Mark (percent_sign word)) (percent ∷ word)
  print_assign : IsPrintable (Mark AssignSign) (colon ∷ equal ∷ [])
  print_colon : IsPrintable (Mark ColonSign) (colon ∷ [])
  print_dot : IsPrintable (Mark DotSign) (dot ∷ [])
  print_bracket : {b : ℕ} {m : Sign} → bracket_sign b ≡ Some m → IsPrintable (Mark m) (b ∷ [])
  print_row : (words : List (List ℕ)) → is_row words ≡ true → IsPrintable (row_kind words) (spelled words)

-- a token's bytes, and a byte of white space behind them
pub record Printed : Type 0 where
  pub kind : Kind
  pub bytes : List ℕ
  pub space : ℕ
  pub printable : IsPrintable kind bytes
  pub is_space : is_white_space space ≡ true

-- the text, and its tokens from a place on
abbrev pub printed_text : List Printed → List ℕ
printed_text [] = []
printed_text (p ∷ ps) = p.bytes ++ (p.space ∷ printed_text ps)

abbrev pub printed_tokens : ℕ → List Printed → List Token
printed_tokens at [] = []
printed_tokens at (p ∷ ps) = token at (at + length p.bytes) p.kind ∷ printed_tokens (at + length p.bytes + 1) ps

abbrev pub PrintedTokensAreCut : Type 0
PrintedTokensAreCut = (at : ℕ) (ps : List Printed) → Cut at (printed_text ps) (printed_tokens at ps) (Finished (at + length (printed_text ps)))
