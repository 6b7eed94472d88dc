-- The tokens of a cut stand in order, inside the text, and hold their bytes.
use Rattle.std.proofs.Common.{◌≡◌, ℕ, ◌+◌, ◌-◌, ◌<◌, ◌≤◌, true, List, [], ◌∷◌, ◌++◌, length, take, drop, refl, sym, ap, subst, ◌∙◌, arith, append_assoc, length-append, true≢false}
use Rattle.name_meaning.specs.Identifiers.{is_run}
use Rattle.text_meaning.specs.Bytes.{percent, left_brace, colon, equal, quote, dot}
use Rattle.text_meaning.specs.Tokens.{Kind, Mark, Token, token, Stray, AssignSign, ColonSign, DotSign, percent_sign, row_kind, dotted, spelled}
use Rattle.text_meaning.specs.Cut.{Ending, Finished, Unclosed, is_row, Cut, at_end, at_mark, white_space, line_comment, nested_comment, unclosed_comment, percent_word, stray_percent, stray_quote, assign, lone_colon, bracket, lone_dot, row}
use Rattle.token_laws.specs.SpanLaws.{slice, InOrder, IsTokenText, percent_text, stray_percent_text, quote_text, assign_text, colon_text, dot_text, bracket_text, row_text, HoldBytes, TokensStandWell}
use Rattle.list_laws.proofs.Booleans.{and_first}

place_of : Ending → ℕ
place_of (Finished at) = at
place_of (Unclosed at) = at

-- what follows a place of a text stands well
record From (text : List ℕ) (at : ℕ) (ts : List Token) (e : Ending) : Type 0 where
  order : InOrder at ts (place_of e)
  within : place_of e ≤ length text
  bytes : HoldBytes text ts

drop_front : (a b : List ℕ) (n : ℕ) → length a ≡ n → drop n (a ++ b) ≡ b
drop_front [] b n e = rw (sym e) refl
drop_front (x ∷ a) b n e = rw (sym e) (drop_front a b (length a) refl)

take_front : (a b : List ℕ) (n : ℕ) → length a ≡ n → take n (a ++ b) ≡ a
take_front [] b n e = rw (sym e) refl
take_front (x ∷ a) b n e = rw (sym e) (ap (λ l. x ∷ l) (take_front a b (length a) refl))

-- the bytes that stand behind a front
sliced : (front bytes rest : List ℕ) (at : ℕ) → length front ≡ at → slice (front ++ (bytes ++ rest)) (record { from = at; to = at + length bytes }) ≡ bytes
sliced front bytes rest at e =
    let n : length bytes ≡ at + length bytes - at = omega arith in
    ap (take (at + length bytes - at)) (drop_front front (bytes ++ rest) at e) ∙ take_front bytes rest _ n

weaker : (at n : ℕ) (ts : List Token) (to : ℕ) → InOrder (at + n) ts to → InOrder at ts to
weaker at n [] to h = omega (arith, h)
weaker at n (t ∷ ts) to h = (omega (arith, h.0), h.1, h.2)

-- over some bytes, with no token
over : {text : List ℕ} {at : ℕ} {ts : List Token} {e : Ending} (n : ℕ) → From text (at + n) ts e → From text at ts e
over {at = at} {ts = ts} {e = e} n f = record { order = weaker at n ts (place_of e) f.order; within = f.within; bytes = f.bytes }

-- a token, and what follows it
with_token : (front bytes rest : List ℕ) (at : ℕ) (kind : Kind) (ts : List Token) (e : Ending) → length front ≡ at → 0 < length bytes → IsTokenText kind bytes
    → From (front ++ (bytes ++ rest)) (at + length bytes) ts e → From (front ++ (bytes ++ rest)) at (token at (at + length bytes) kind ∷ ts) e
with_token front bytes rest at kind ts e h some t f =
    record {
      order = (omega arith, omega (arith, some), f.order);
      within = f.within;
      bytes = (subst (IsTokenText kind) (sym (sliced front bytes rest at h)) t, f.bytes);
    }

-- what holds behind any front of the right length
abbrev Behind : List ℕ → ℕ → List Token → Ending → Type 0
Behind bytes at ts e = (front : List ℕ) → length front ≡ at → From (front ++ bytes) at ts e

-- some more bytes belong to the front
further : (front bytes rest : List ℕ) (at n : ℕ) (ts : List Token) (e : Ending) → length front ≡ at → n ≡ length bytes → Behind rest (at + n) ts e → From (front ++ (bytes ++ rest)) (at + n) ts e
further front bytes rest at n ts e h k f =
    subst (λ l. From l (at + n) ts e) (append_assoc front bytes rest) (f (front ++ bytes) (omega (arith, length-append front bytes, h, k)))

run_some : (w : List ℕ) → is_run w ≡ true → 0 < length w
run_some [] h = absurd (true≢false (sym h))
run_some (b ∷ w) h = omega arith

pub row_some : (ws : List (List ℕ)) → is_row ws ≡ true → 0 < length (spelled ws)
row_some [] h = absurd (true≢false (sym h))
row_some (w ∷ ws) h = omega (arith, run_some w (and_first (is_run w) _ h), length-append w (dotted ws))

cut_stands : {at : ℕ} {bytes : List ℕ} {ts : List Token} {e : Ending} → Cut at bytes ts e → Behind bytes at ts e
unfolding place_of
cut_stands at_end front h = record { order = omega arith; within = omega (arith, length-append front [], h); bytes = tt }
cut_stands (at_mark {rest = rest}) front h = record { order = omega arith; within = omega (arith, length-append front (percent ∷ dot ∷ rest), h); bytes = tt }
cut_stands (white_space {at = at} {b = b} {rest = rest} k d) front h = over 1 (further front (b ∷ []) rest at 1 _ _ h refl (cut_stands d))
cut_stands (line_comment {at = at} comment rest k l m d) front h = over (1 + length comment) (further front (percent ∷ comment) rest at (1 + length comment) _ _ h (omega arith) (cut_stands d))
cut_stands (nested_comment {at = at} comment rest k d) front h =
    over (2 + length comment) (further front (percent ∷ left_brace ∷ comment) rest at (2 + length comment) _ _ h (omega arith) (cut_stands d))
cut_stands (unclosed_comment {rest = rest} k) front h = record { order = omega arith; within = omega (arith, length-append front (percent ∷ left_brace ∷ rest), h); bytes = tt }
cut_stands (percent_word {at = at} word rest {ts = ts} {e = e} k l d) front h =
    let n : length (percent ∷ word) ≡ 1 + length word = omega arith in
    let f : From (front ++ ((percent ∷ word) ++ rest)) (at + (1 + length word)) ts e = further front (percent ∷ word) rest at (1 + length word) ts e h (omega arith) (cut_stands d) in
    subst (λ m. From (front ++ ((percent ∷ word) ++ rest)) at (token at (at + m) (Mark (percent_sign word)) ∷ ts) e) n
    (with_token front (percent ∷ word) rest at (Mark (percent_sign word)) ts e h (omega arith) (percent_text k) (subst (λ m. From (front ++ ((percent ∷ word) ++ rest)) (at + m) ts e) (sym n) f))
cut_stands (stray_percent {at = at} {rest = rest} {ts = ts} {e = e} k d) front h =
    with_token front (percent ∷ []) rest at (Mark Stray) ts e h (omega arith) stray_percent_text (further front (percent ∷ []) rest at 1 ts e h refl (cut_stands d))
cut_stands (stray_quote {at = at} {rest = rest} {ts = ts} {e = e} d) front h =
    with_token front (quote ∷ []) rest at (Mark Stray) ts e h (omega arith) quote_text (further front (quote ∷ []) rest at 1 ts e h refl (cut_stands d))
cut_stands (assign {at = at} {rest = rest} {ts = ts} {e = e} d) front h =
    with_token front (colon ∷ equal ∷ []) rest at (Mark AssignSign) ts e h (omega arith) assign_text (further front (colon ∷ equal ∷ []) rest at 2 ts e h refl (cut_stands d))
cut_stands (lone_colon {at = at} {rest = rest} {ts = ts} {e = e} k d) front h =
    with_token front (colon ∷ []) rest at (Mark ColonSign) ts e h (omega arith) colon_text (further front (colon ∷ []) rest at 1 ts e h refl (cut_stands d))
cut_stands (bracket {at = at} {b = b} {m = m} {rest = rest} {ts = ts} {e = e} k d) front h =
    with_token front (b ∷ []) rest at (Mark m) ts e h (omega arith) (bracket_text k) (further front (b ∷ []) rest at 1 ts e h refl (cut_stands d))
cut_stands (lone_dot {at = at} {rest = rest} {ts = ts} {e = e} d) front h =
    with_token front (dot ∷ []) rest at (Mark DotSign) ts e h (omega arith) dot_text (further front (dot ∷ []) rest at 1 ts e h refl (cut_stands d))
cut_stands (row {at = at} words rest {ts = ts} {e = e} k l d) front h =
    with_token front (spelled words) rest at (row_kind words) ts e h (row_some words k) (row_text words k) (further front (spelled words) rest at (length (spelled words)) ts e h refl (cut_stands d))

pub tokens_stand_well : TokensStandWell
unfolding place_of
tokens_stand_well text ts end h = let f = cut_stands h.1 [] refl in record { order = f.order; within = f.within; bytes = f.bytes }

-- a comment that has no end begins within the text
pub open_within : (text : List ℕ) (ts : List Token) (at : ℕ) → Cut 0 text ts (Unclosed at) → at ≤ length text
unfolding place_of
open_within text ts at d = (cut_stands d [] refl).within
