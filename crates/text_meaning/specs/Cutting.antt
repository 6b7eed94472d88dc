-- The cut as a function: a machine that takes one byte a step and looks at the byte behind it.
use Rattle.std.specs.Prelude.{ℕ, zero, suc, ◌+◌, ◌&&◌, ◌||◌, ◌==◌, List, [], ◌∷◌, ◌++◌, Option, Some, None, if◌then◌else◌}
use Rattle.std.specs.Str.{is_utf8}
use Rattle.std.specs.Str.Lossy.{utf8_valid_len}
use Rattle.name_meaning.specs.Characters.{is_white_space, is_identifier_byte}
use Rattle.text_meaning.specs.Bytes.{line_feed, percent, dot, colon, equal, left_brace, right_brace, begins}
use Rattle.text_meaning.specs.Tokens.{Sign, Mark, Token, token, percent_sign, row_kind, Stray, AssignSign, ColonSign, DotSign}
use Rattle.text_meaning.specs.Cut.{Ending, Finished, Unclosed, bracket_sign, Lexed, Tokens, NotUtf8, OpenComment}

-- where the machine stands
pub data Place : Type 0 where
  Between : Place
  -- before the second byte of two that are taken whole
  Second : Place → Place
  InLine : Place
  -- in a comment that begins at a place; so many further ones are open within it
  InComment : (from inner : ℕ) → Place
  -- in a percent word, behind these of its bytes
  InWord : (from : ℕ) → (word : List ℕ) → Place
  -- in a row, behind these of its runs and these bytes of one more
  InRow : (from : ℕ) → (runs : List (List ℕ)) → (run : List ℕ) → Place

-- some tokens, and then a place from which to go on, or the end
pub data Move : Type 0 where
  GoOn : List Token → Place → Move
  Stop : List Token → Ending → Move

pub record Cutting : Type 0 where
  pub tokens : List Token
  pub ending : Ending

abbrev pub ahead : List Token → Cutting → Cutting
ahead ts c = record { tokens = ts ++ c.tokens; ending = c.ending }

abbrev pub token_first : Token → Move → Move
token_first t (GoOn ts p) = GoOn (t ∷ ts) p
token_first t (Stop ts e) = Stop (t ∷ ts) e

-- at a `%` between tokens, with the bytes behind it
abbrev pub percent_move : ℕ → List ℕ → Move
percent_move at [] = GoOn [] InLine
percent_move at (b ∷ bs) =
    if is_white_space b || b == percent then GoOn [] InLine
    else if b == left_brace then GoOn [] (Second (InComment at 0))
    else if b == dot then Stop [] (Finished at)
    else if is_identifier_byte b then GoOn [] (InWord at [])
    else GoOn (token at (at + 1) (Mark Stray) ∷ []) Between

-- at a special byte between tokens that is no bracket
abbrev pub special_move : ℕ → ℕ → List ℕ → Option Sign → Move
special_move at b bs (Some m) = GoOn (token at (at + 1) (Mark m) ∷ []) Between
special_move at b bs None =
    if b == percent then percent_move at bs
    else if b == colon then (if begins (λ c. c == equal) bs then GoOn (token at (at + 2) (Mark AssignSign) ∷ []) (Second Between) else GoOn (token at (at + 1) (Mark ColonSign) ∷ []) Between)
    else if b == dot then GoOn (token at (at + 1) (Mark DotSign) ∷ []) Between
    else GoOn (token at (at + 1) (Mark Stray) ∷ []) Between

-- at any byte between tokens
abbrev pub between_move : ℕ → ℕ → List ℕ → Move
between_move at b bs =
    if is_identifier_byte b then GoOn [] (InRow at [] (b ∷ []))
    else if is_white_space b then GoOn [] Between
    else special_move at b bs (bracket_sign b)

-- behind a comment that is closed, with so many still open around it
abbrev pub closed_place : ℕ → ℕ → Place
closed_place from zero = Between
closed_place from (suc n) = InComment from n

abbrev pub move : Place → ℕ → ℕ → List ℕ → Move
move Between at b bs = between_move at b bs
move (Second p) at b bs = GoOn [] p
move InLine at b bs = if b == line_feed then GoOn [] Between else GoOn [] InLine
move (InComment from n) at b bs =
    if b == percent && begins (λ c. c == left_brace) bs then GoOn [] (Second (InComment from (suc n)))
    else if b == right_brace && begins (λ c. c == percent) bs then GoOn [] (Second (closed_place from n))
    else GoOn [] (InComment from n)
move (InWord from w) at b bs =
    if is_identifier_byte b then GoOn [] (InWord from (w ++ (b ∷ [])))
    else token_first (token from at (Mark (percent_sign w))) (between_move at b bs)
move (InRow from ws w) at b bs =
    if is_identifier_byte b then GoOn [] (InRow from ws (w ++ (b ∷ [])))
    else if b == dot && begins is_identifier_byte bs then GoOn [] (InRow from (ws ++ (w ∷ [])) [])
    else token_first (token from at (row_kind (ws ++ (w ∷ [])))) (between_move at b bs)

-- at the end of the text
abbrev pub last_move : Place → ℕ → Cutting
last_move Between at = record { tokens = []; ending = Finished at }
last_move (Second p) at = record { tokens = []; ending = Finished at }
last_move InLine at = record { tokens = []; ending = Finished at }
last_move (InComment from n) at = record { tokens = []; ending = Unclosed from }
last_move (InWord from w) at = record { tokens = token from at (Mark (percent_sign w)) ∷ []; ending = Finished at }
last_move (InRow from ws w) at = record { tokens = token from at (row_kind (ws ++ (w ∷ []))) ∷ []; ending = Finished at }

abbrev pub follow : Move → (Place → Cutting) → Cutting
follow (GoOn ts p) go = ahead ts (go p)
follow (Stop ts e) go = record { tokens = ts; ending = e }

-- the tokens and the ending of these bytes, from a place on
unfoldable pub cut_on : Place → ℕ → List ℕ → Cutting
cut_on p at [] = last_move p at
cut_on p at (b ∷ bs) = follow (move p at b bs) (λ q. cut_on q (at + 1) bs)

abbrev pub lexed_of : Cutting → Lexed
lexed_of c = elim c.ending [ Finished at ↦ Tokens c.tokens at | Unclosed at ↦ OpenComment at ]

-- what a text is cut into, or its fault
unfoldable pub lex : List ℕ → Lexed
lex text = if is_utf8 text then lexed_of (cut_on Between 0 text) else NotUtf8 (utf8_valid_len text)
