-- One step at each form of bytes.
use Rattle.std.proofs.Common.{◌≡◌, ℕ, ◌+◌, ◌-◌, ◌<◌, Bool, true, false, not, ◌||◌, ◌==◌, List, [], ◌∷◌, length, drop, get_or, codes, Some, None, refl, sym, ap, subst, ◌∙◌, arith, IsUtf8, IsCharBoundary, eqb-true, true≢false, ◌≢◌}
use Rattle.std.specs.List.{slice_range}
use Rattle.name_meaning.specs.Characters.{is_white_space, is_identifier_byte, is_special}
use Rattle.text_meaning.specs.Bytes.{line_feed, begins}
use Rattle.text_meaning.specs.Tokens.{Mark, Sign, Token, token, percent_sign, Stray, AssignSign, ColonSign, DotSign}
use Rattle.text_meaning.specs.Cut.{Finished, Unclosed, begins_line_comment, ends_line, begins_nothing, brackets, bracket_sign}
use Rattle.text_meaning.specs.Cutting.{Between, ahead, cut_on}
use Rattle.token_laws.proofs.CutFollows.{one_of, of_sign_in}
use Rattle.token_laws.proofs.Steps.{comment_goes_in, line_comment_goes, mark_ends, percent_word_goes, stray_percent_goes, quote_goes, dot_goes, assign_goes, colon_goes, bracket_goes, white_space_goes}
use Rattle.twelf_lexer.specs.Scans.{IsFront, Closes, StaysOpen}
use Rattle.twelf_lexer.specs.Advances.{Advances}
use Rattle.twelf_lexer.proofs.Places.{begins_at, front_length, front_parts, boundary_before, boundary_after}
use Rattle.twelf_lexer.proofs.RowSteps.{front_runs}
use Rattle.token_laws.proofs.Bytes.{low_byte}
use Rattle.list_laws.proofs.Places.{here_and_on}

-- the byte at a place, and what follows
here_is : (text : List ℕ) (at b : ℕ) → at < length text → get_or text at 0 ≡ b → drop at text ≡ b ∷ drop (at + 1) text
here_is text at b h e = here_and_on text at h ∙ ap (λ x. x ∷ drop (at + 1) text) e

then_is : (text : List ℕ) (at b c : ℕ) → at < length text → get_or text at 0 ≡ b → begins (λ x. x == c) (drop (at + 1) text) ≡ true → drop at text ≡ b ∷ c ∷ drop (at + 2) text
then_is text at b c h e k =
    let s = begins_at (λ x. x == c) text (at + 1) k in
    let n : at + 1 + 1 ≡ at + 2 = omega arith in
    here_is text at b h e ∙ ap (λ l. b ∷ l) (here_is text (at + 1) c s.within (eqb-true (get_or text (at + 1) 0) c s.passes)) ∙ ap (λ j. b ∷ c ∷ drop j text) n

-- a step over one byte
one_byte : (text : List ℕ) (at b : ℕ) (ts : List Token) → IsUtf8 text → at < length text → get_or text at 0 ≡ b → b < 128
    → cut_on Between at (b ∷ drop (at + 1) text) ≡ ahead ts (cut_on Between (at + 1) (drop (at + 1) text)) → Advances text at (at + 1) ts
one_byte text at b ts u h e low k = record { forward = omega arith; within = omega (arith, h); boundary = boundary_after text at b u h e low; cut = ap (cut_on Between at) (here_is text at b h e) ∙ k }

pub white_space_step : (text : List ℕ) (at : ℕ) → IsUtf8 text → at < length text → is_white_space (get_or text at 0) ≡ true → Advances text at (at + 1) []
white_space_step text at u h w =
    one_byte text at (get_or text at 0) [] u h refl (low_byte (get_or text at 0) (not_id (is_white_space (get_or text at 0)) _ w)) (white_space_goes at (get_or text at 0) (drop (at + 1) text) w)
  where
    not_id : (a b : Bool) → a ≡ true → not (a || b) ≡ false
    not_id a b e = rw e refl

-- ---- a colon

pub assign_step : (text : List ℕ) (at : ℕ) → IsUtf8 text → at < length text → get_or text at 0 ≡ 58 → begins (λ b. b == 61) (drop (at + 1) text) ≡ true
    → Advances text at (at + 1 + 1) (token at (at + 1 + 1) (Mark AssignSign) ∷ [])
assign_step text at u h e k =
    let s = begins_at (λ x. x == 61) text (at + 1) k in
    let n : at + 2 ≡ at + 1 + 1 = omega arith in
    record {
      forward = omega arith;
      within = omega (arith, s.within);
      boundary = boundary_after text (at + 1) 61 u s.within (eqb-true (get_or text (at + 1) 0) 61 s.passes) (omega arith);
      cut = ap (cut_on Between at) (then_is text at 58 61 h e k) ∙ assign_goes at (drop (at + 2) text) ∙ ap (λ j. ahead (token at j (Mark AssignSign) ∷ []) (cut_on Between j (drop j text))) n;
    }

pub colon_step : (text : List ℕ) (at : ℕ) → IsUtf8 text → at < length text → get_or text at 0 ≡ 58 → begins (λ b. b == 61) (drop (at + 1) text) ≡ false
    → Advances text at (at + 1) (token at (at + 1) (Mark ColonSign) ∷ [])
colon_step text at u h e k = one_byte text at 58 _ u h e (omega arith) (colon_goes at (drop (at + 1) text) k)

-- ---- other special bytes

pub dot_step : (text : List ℕ) (at : ℕ) → IsUtf8 text → at < length text → get_or text at 0 ≡ 46 → Advances text at (at + 1) (token at (at + 1) (Mark DotSign) ∷ [])
dot_step text at u h e = one_byte text at 46 _ u h e (omega arith) (dot_goes at (drop (at + 1) text))

pub bracket_step : (text : List ℕ) (at b : ℕ) (m : Sign) → IsUtf8 text → at < length text → get_or text at 0 ≡ b → b < 128 → bracket_sign b ≡ Some m → Advances text at (at + 1) (token at (at + 1) (Mark m) ∷ [])
bracket_step text at b m u h e low k = one_byte text at b _ u h e low (bracket_goes at b m (drop (at + 1) text) k)

pub bracket_byte_step : (text : List ℕ) (at : ℕ) (m : Sign) → IsUtf8 text → at < length text → bracket_sign (get_or text at 0) ≡ Some m → Advances text at (at + 1) (token at (at + 1) (Mark m) ∷ [])
bracket_byte_step text at m u h k = bracket_step text at (get_or text at 0) m u h refl (of_sign_in (λ b m. b < 128) brackets (get_or text at 0) m (omega arith, (omega arith, (omega arith, (omega arith, (omega arith, (omega arith, tt)))))) k) k

pub quote_step : (text : List ℕ) (at : ℕ) → IsUtf8 text → at < length text → is_special (get_or text at 0) ≡ true
    → get_or text at 0 ≢ 37 → get_or text at 0 ≢ 58 → get_or text at 0 ≢ 46 → bracket_sign (get_or text at 0) ≡ None → Advances text at (at + 1) (token at (at + 1) (Mark Stray) ∷ [])
quote_step text at u h s n1 n2 n3 n4 =
    let b = get_or text at 0 in
    let is_quote : b ≡ 34 = one_of (λ c. b ≡ c → b ≡ 34) (codes ":.()[]{}%\"") b (no 58 n2, (no 46 n3, (other 40 _ refl, (other 41 _ refl, (other 91 _ refl, (other 93 _ refl, (other 123 _ refl, (other 125 _ refl, (no 37 n1, ((λ x. x), tt)))))))))) s refl in
    one_byte text at 34 _ u h is_quote (omega arith) (quote_goes at (drop (at + 1) text))
  where
    no : (c : ℕ) → get_or text at 0 ≢ c → get_or text at 0 ≡ c → get_or text at 0 ≡ 34
    no c n e = absurd (n e)

    apart : (m : Sign) → None ≡ Some m → ⊥
    apart m e = absurd cc

    other : (c : ℕ) (m : Sign) → bracket_sign c ≡ Some m → get_or text at 0 ≡ c → get_or text at 0 ≡ 34
    other c m f e = absurd (apart m (sym n4 ∙ ap bracket_sign e ∙ f))

-- ---- a percent sign

line_is_over : (bs : List ℕ) → begins (λ b. not (b == line_feed)) bs ≡ false → (ends_line bs ≡ true) × (begins is_identifier_byte bs ≡ false)
line_is_over [] h = (refl, refl)
line_is_over (b ∷ bs) h = go (b == line_feed) refl h
  where
    go : (t : Bool) → (b == line_feed) ≡ t → not (b == line_feed) ≡ false → (ends_line (b ∷ bs) ≡ true) × (begins is_identifier_byte (b ∷ bs) ≡ false)
    go true e k = (e, ap is_identifier_byte (eqb-true b line_feed e))
    go false e k = absurd (true≢false (sym (ap not e) ∙ k))

pub line_step : (text : List ℕ) (at to : ℕ) → at < length text → get_or text at 0 ≡ 37 → begins_line_comment (drop (at + 1) text) ≡ true → IsFront (λ b. not (b == line_feed)) text (at + 1) to → Advances text at to []
line_step text at to h e k f =
    let comment = slice_range text (at + 1) to in
    let over = line_is_over (drop to text) f.ends in
    let parts = front_parts text (at + 1) to f.forward in
    let n : at + 1 + length comment ≡ to = omega (arith, front_length text (at + 1) to f.forward f.within, f.forward) in
    record {
      forward = omega (arith, f.forward);
      within = f.within;
      boundary = boundary_before text to f.within over.1;
      cut = ap (cut_on Between at) (here_is text at 37 h e ∙ ap (λ l. 37 ∷ l) parts)
          ∙ line_comment_goes at comment (drop to text) (ap begins_line_comment (sym parts) ∙ k) f.passes over.0 ∙ ap (λ j. cut_on Between j (drop to text)) n;
    }

pub comment_step : (text : List ℕ) (at to : ℕ) → IsUtf8 text → at < length text → get_or text at 0 ≡ 37 → begins (λ b. b == 123) (drop (at + 1) text) ≡ true → Closes text (at + 2) to → Advances text at to []
comment_step text at to u h e k f =
    let n : to - 1 + 1 ≡ to = omega (arith, f.forward) in
    record {
      forward = omega (arith, f.forward);
      within = f.within;
      boundary = subst (IsCharBoundary text) n (boundary_after text (to - 1) 37 u (omega (arith, f.forward, f.within)) f.ends (omega arith));
      cut = ap (cut_on Between at) (then_is text at 37 123 h e k) ∙ comment_goes_in at (drop (at + 2) text) ∙ f.closes at;
    }

pub open_step : (text : List ℕ) (at : ℕ) → at < length text → get_or text at 0 ≡ 37 → begins (λ b. b == 123) (drop (at + 1) text) ≡ true → StaysOpen text (at + 2)
    → cut_on Between at (drop at text) ≡ record { tokens = []; ending = Unclosed at }
open_step text at h e k f = ap (cut_on Between at) (then_is text at 37 123 h e k) ∙ comment_goes_in at (drop (at + 2) text) ∙ f at

pub mark_step : (text : List ℕ) (at : ℕ) → at < length text → get_or text at 0 ≡ 37 → begins (λ b. b == 46) (drop (at + 1) text) ≡ true
    → cut_on Between at (drop at text) ≡ record { tokens = []; ending = Finished at }
mark_step text at h e k = ap (cut_on Between at) (then_is text at 37 46 h e k) ∙ mark_ends at (drop (at + 2) text)

pub word_step : (text : List ℕ) (at to : ℕ) → at < length text → get_or text at 0 ≡ 37 → begins is_identifier_byte (drop (at + 1) text) ≡ true → IsFront is_identifier_byte text (at + 1) to
    → Advances text at to (token at to (Mark (percent_sign (slice_range text (at + 1) to))) ∷ [])
word_step text at to h e k f =
    let word = slice_range text (at + 1) to in
    let n : at + 1 + length word ≡ to = omega (arith, front_length text (at + 1) to f.forward f.within, f.forward) in
    record {
      forward = omega (arith, f.forward);
      within = f.within;
      boundary = boundary_before text to f.within f.ends;
      cut = ap (cut_on Between at) (here_is text at 37 h e ∙ ap (λ l. 37 ∷ l) (front_parts text (at + 1) to f.forward))
          ∙ percent_word_goes at word (drop to text) (front_runs text (at + 1) to f k) f.ends ∙ ap (λ j. ahead (token at j (Mark (percent_sign word)) ∷ []) (cut_on Between j (drop to text))) n;
    }

nothing_begins : (bs : List ℕ) → begins_line_comment bs ≡ false → begins (λ b. b == 123) bs ≡ false → begins (λ b. b == 46) bs ≡ false → begins is_identifier_byte bs ≡ false → begins_nothing bs ≡ true
nothing_begins [] h k l m = absurd (true≢false h)
nothing_begins (b ∷ bs) h k l m = rw (m, h, k, l) refl

pub stray_step : (text : List ℕ) (at : ℕ) → IsUtf8 text → at < length text → get_or text at 0 ≡ 37 → begins_line_comment (drop (at + 1) text) ≡ false → begins (λ b. b == 123) (drop (at + 1) text) ≡ false
    → begins (λ b. b == 46) (drop (at + 1) text) ≡ false → begins is_identifier_byte (drop (at + 1) text) ≡ false → Advances text at (at + 1) (token at (at + 1) (Mark Stray) ∷ [])
stray_step text at u h e k l m n = one_byte text at 37 _ u h e (omega arith) (stray_percent_goes at (drop (at + 1) text) (nothing_begins (drop (at + 1) text) k l m n))
