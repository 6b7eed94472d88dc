-- Where the tokens of a text stand, and which bytes they hold.
use Rattle.std.specs.Prelude.{◌≡◌, ℕ, ◌<◌, ◌≤◌, true, List, [], ◌∷◌, Some, length}
use Rattle.std.specs.List.{slice_range}
use Rattle.name_meaning.specs.Identifiers.{is_run}
use Rattle.text_meaning.specs.Bytes.{quote, percent, dot, colon, equal}
use Rattle.text_meaning.specs.Tokens.{Span, Kind, Mark, Sign, Token, Stray, AssignSign, ColonSign, DotSign, percent_sign, row_kind, spelled}
use Rattle.text_meaning.specs.Cut.{Tokens, IsLexed, bracket_sign, is_row}

-- the bytes of a text at a span
abbrev pub slice : List ℕ → Span → List ℕ
slice text s = slice_range text s.from s.to

-- From a place on, the tokens stand in order, none empty and none over another, up to a place.
abbrev pub InOrder : ℕ → List Token → ℕ → Type 0
InOrder from [] to = from ≤ to
InOrder from (t ∷ ts) to = (from ≤ t.span.from) × (t.span.from < t.span.to) × InOrder t.span.to ts to

-- These bytes are a token of this kind.
pub data IsTokenText : Kind → List ℕ → Type 0 where
  percent_text : {word : List ℕ} → is_run word ≡ true → IsTokenText (Mark (percent_sign word)) (percent ∷ word)
  stray_percent_text : IsTokenText (Mark Stray) (percent ∷ [])
  quote_text : IsTokenText (Mark Stray) (quote ∷ [])
  assign_text : IsTokenText (Mark AssignSign) (colon ∷ equal ∷ [])
  colon_text : IsTokenText (Mark ColonSign) (colon ∷ [])
  dot_text : IsTokenText (Mark DotSign) (dot ∷ [])
  bracket_text : {b : ℕ} {m : Sign} → bracket_sign b ≡ Some m → IsTokenText (Mark m) (b ∷ [])
  row_text : (words : List (List ℕ)) → is_row words ≡ true → IsTokenText (row_kind words) (spelled words)

-- Each token holds its bytes.
abbrev pub HoldBytes : List ℕ → List Token → Type 0
HoldBytes text [] = Unit {0}
HoldBytes text (t ∷ ts) = IsTokenText t.kind (slice text t.span) × HoldBytes text ts

pub record StandWell (text : List ℕ) (ts : List Token) (end : ℕ) : Type 0 where
  pub order : InOrder 0 ts end
  pub within : end ≤ length text
  pub bytes : HoldBytes text ts

abbrev pub TokensStandWell : Type 0
TokensStandWell = (text : List ℕ) (ts : List Token) (end : ℕ) → IsLexed text (Tokens ts end) → StandWell text ts end
