-- How a text is cut into tokens: case by case, each run the longest (this profile).
use Rattle.std.specs.Prelude.{◌≡◌, ℕ, suc, ◌+◌, Bool, true, false, not, ◌&&◌, ◌||◌, ◌==◌, List, [], ◌∷◌, ◌++◌, length, Option, Some, None, IsUtf8, if◌then◌else◌}
use Rattle.std.specs.Str.Lossy.{utf8_valid_len}
use Rattle.std.specs.List.{list_all}
use Rattle.name_meaning.specs.Characters.{is_white_space, is_identifier_byte}
use Rattle.name_meaning.specs.Identifiers.{is_run}
use Rattle.text_meaning.specs.Bytes.{line_feed, quote, percent, dot, colon, equal, left_brace, right_brace, begins}
use Rattle.text_meaning.specs.Tokens.{Sign, Mark, Token, token, percent_sign, row_kind, spelled, Stray, AssignSign, ColonSign, DotSign, LeftParen, RightParen, LeftBracket, RightBracket, LeftBrace, RightBrace}

-- how a cut ends: at the end of the input, or where an outermost comment begins that has no end
pub data Ending : Type 0 where
  Finished : (at : ℕ) → Ending
  Unclosed : (at : ℕ) → Ending

-- `%{` or `}%` stands here: a byte and what follows it
abbrev pub is_comment_mark : ℕ → List ℕ → Bool
is_comment_mark b bs = (b == percent && begins (λ c. c == left_brace) bs) || (b == right_brace && begins (λ c. c == percent) bs)

-- these bytes close so many comments that are open before them, the last at their end:
-- only `%{` and `}%` count, each taken whole from left to right
pub data Closes : ℕ → List ℕ → Type 0 where
  all_closed : Closes 0 []
  opens : {n : ℕ} {bs : List ℕ} → Closes (suc (suc n)) bs → Closes (suc n) (percent ∷ left_brace ∷ bs)
  closes : {n : ℕ} {bs : List ℕ} → Closes n bs → Closes (suc n) (right_brace ∷ percent ∷ bs)
  passes : {n b : ℕ} {bs : List ℕ} → is_comment_mark b bs ≡ false → Closes (suc n) bs → Closes (suc n) (b ∷ bs)

-- no front of these bytes closes a comment that is open before them
abbrev pub NeverCloses : List ℕ → Type 0
NeverCloses bs = (front back : List ℕ) → bs ≡ front ++ back → ¬ Closes 1 front

-- behind a `%` these bytes begin a comment up to the end of the line: white space, another `%`, or nothing
abbrev pub begins_line_comment : List ℕ → Bool
begins_line_comment [] = true
begins_line_comment (b ∷ bs) = is_white_space b || b == percent

-- a line ends before these bytes
abbrev pub ends_line : List ℕ → Bool
ends_line [] = true
ends_line (b ∷ bs) = b == line_feed

-- behind a `%` these bytes begin none of the other cases
abbrev pub begins_nothing : List ℕ → Bool
begins_nothing [] = false
begins_nothing (b ∷ bs) = not ((is_white_space b || b == percent) || ((b == left_brace || b == dot) || is_identifier_byte b))

-- a row of runs, at least one
abbrev pub is_row : List (List ℕ) → Bool
is_row [] = false
is_row (w ∷ ws) = list_all is_run (w ∷ ws)

-- a row that stands before these bytes goes no further: neither by an identifier byte, nor by a dot and one
abbrev pub ends_row : List ℕ → Bool
ends_row [] = true
ends_row (b ∷ bs) = not (is_identifier_byte b || (b == dot && begins is_identifier_byte bs))

-- the brackets, and their tokens
abbrev pub brackets : List (ℕ × Sign)
brackets = (40, LeftParen) ∷ (41, RightParen) ∷ (91, LeftBracket) ∷ (93, RightBracket) ∷ (left_brace, LeftBrace) ∷ (right_brace, RightBrace) ∷ []

abbrev pub sign_in : List (ℕ × Sign) → ℕ → Option Sign
sign_in [] b = None
sign_in (p ∷ ps) b = if b == p.0 then Some p.1 else sign_in ps b

-- the token that a byte is by itself, where it is a bracket
abbrev pub bracket_sign : ℕ → Option Sign
bracket_sign b = sign_in brackets b

-- From a place of the text on, these bytes are cut into these tokens, with this ending.
pub data Cut : ℕ → List ℕ → List Token → Ending → Type 0 where
  at_end : {at : ℕ} → Cut at [] [] (Finished at)
  -- `%.` ends the input, and the rest is not cut
  at_mark : {at : ℕ} {rest : List ℕ} → Cut at (percent ∷ dot ∷ rest) [] (Finished at)
  white_space : {at b : ℕ} {rest : List ℕ} {ts : List Token} {e : Ending} → is_white_space b ≡ true
      → Cut (at + 1) rest ts e → Cut at (b ∷ rest) ts e
  line_comment : {at : ℕ} (comment rest : List ℕ) {ts : List Token} {e : Ending}
      → begins_line_comment (comment ++ rest) ≡ true → list_all (λ b. not (b == line_feed)) comment ≡ true → ends_line rest ≡ true
      → Cut (at + (1 + length comment)) rest ts e → Cut at (percent ∷ (comment ++ rest)) ts e
  nested_comment : {at : ℕ} (comment rest : List ℕ) {ts : List Token} {e : Ending} → Closes 1 comment
      → Cut (at + (2 + length comment)) rest ts e → Cut at (percent ∷ left_brace ∷ (comment ++ rest)) ts e
  unclosed_comment : {at : ℕ} {rest : List ℕ} → NeverCloses rest → Cut at (percent ∷ left_brace ∷ rest) [] (Unclosed at)
  percent_word : {at : ℕ} (word rest : List ℕ) {ts : List Token} {e : Ending} → is_run word ≡ true → begins is_identifier_byte rest ≡ false
      → Cut (at + (1 + length word)) rest ts e
      → Cut at (percent ∷ (word ++ rest)) (token at (at + (1 + length word)) (Mark (percent_sign word)) ∷ ts) e
  stray_percent : {at : ℕ} {rest : List ℕ} {ts : List Token} {e : Ending} → begins_nothing rest ≡ true
      → Cut (at + 1) rest ts e → Cut at (percent ∷ rest) (token at (at + 1) (Mark Stray) ∷ ts) e
  stray_quote : {at : ℕ} {rest : List ℕ} {ts : List Token} {e : Ending}
      → Cut (at + 1) rest ts e → Cut at (quote ∷ rest) (token at (at + 1) (Mark Stray) ∷ ts) e
  assign : {at : ℕ} {rest : List ℕ} {ts : List Token} {e : Ending}
      → Cut (at + 2) rest ts e → Cut at (colon ∷ equal ∷ rest) (token at (at + 2) (Mark AssignSign) ∷ ts) e
  lone_colon : {at : ℕ} {rest : List ℕ} {ts : List Token} {e : Ending} → begins (λ b. b == equal) rest ≡ false
      → Cut (at + 1) rest ts e → Cut at (colon ∷ rest) (token at (at + 1) (Mark ColonSign) ∷ ts) e
  bracket : {at b : ℕ} {m : Sign} {rest : List ℕ} {ts : List Token} {e : Ending} → bracket_sign b ≡ Some m
      → Cut (at + 1) rest ts e → Cut at (b ∷ rest) (token at (at + 1) (Mark m) ∷ ts) e
  lone_dot : {at : ℕ} {rest : List ℕ} {ts : List Token} {e : Ending}
      → Cut (at + 1) rest ts e → Cut at (dot ∷ rest) (token at (at + 1) (Mark DotSign) ∷ ts) e
  row : {at : ℕ} (words : List (List ℕ)) (rest : List ℕ) {ts : List Token} {e : Ending} → is_row words ≡ true → ends_row rest ≡ true
      → Cut (at + length (spelled words)) rest ts e
      → Cut at (spelled words ++ rest) (token at (at + length (spelled words)) (row_kind words) ∷ ts) e

-- what a text is to its reader: tokens and the place of the input's end; or bytes that are not UTF-8, refused as a whole
-- at the first bad sequence; or a comment without an end, refused where the outermost one begins
pub data Lexed : Type 0 where
  Tokens : List Token → (end : ℕ) → Lexed
  NotUtf8 : (at : ℕ) → Lexed
  OpenComment : (at : ℕ) → Lexed

-- A text has these tokens, or this fault.
abbrev pub IsLexed : List ℕ → Lexed → Type 0
IsLexed text (Tokens ts end) = IsUtf8 text × Cut 0 text ts (Finished end)
IsLexed text (NotUtf8 at) = (¬ (IsUtf8 text)) × (at ≡ utf8_valid_len text)
IsLexed text (OpenComment at) = IsUtf8 text × ((ts : List Token) × Cut 0 text ts (Unclosed at))
