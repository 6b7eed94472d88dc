-- Lines that are too long, known before their end was read.
use Rattle.std.proofs.Common.{◌≡◌, ℕ, ◌+◌, ◌-◌, ◌≤◌, Bool, true, false, cond, List, [], ◌∷◌, ◌++◌, length, take, refl, ap, arith}
use Rattle.std.specs.Prelude.{slice_index, ◌==◌, codes}
use Rattle.std.specs.Str.Lines.{strip_carriage_return}
use Rattle.std.proofs.lemmas.List.{length-append, length-take}
use Rattle.std.proofs.lemmas.Slice.Eq.{bytes_eq-Decides}
use Rattle.printing_meaning.specs.Lines.{onto_first, lines_of, NoFeed, without_line_feed, content_of}
use Rattle.printing_meaning.specs.ScriptLines.{is_end_line, text_before}
use Rattle.std.proofs.lemmas.Bool.{false_from_ne_true}

-- the first line begins with the piece
pub record FirstBegins (piece rest : List ℕ) : Type 0 where
  pub more : List ℕ
  pub others : List (List ℕ)
  pub is : lines_of (piece ++ rest) ≡ (piece ++ more) ∷ others

begins_one : (b : ℕ) (lines : List (List ℕ)) → (more : List ℕ) × ((others : List (List ℕ)) × (onto_first b lines ≡ (b ∷ more) ∷ others))
begins_one b [] = ([], ([], refl))
begins_one b (line ∷ lines) = (line, (lines, refl))

pub first_begins : (b : ℕ) (piece rest : List ℕ) → NoFeed (b ∷ piece) → FirstBegins (b ∷ piece) rest
unfolding lines_of
first_begins b [] rest plain =
    let one = begins_one b (lines_of rest) in
    record { more = one.0; others = one.1.0; is = rw plain.0 one.1.1 }
first_begins b (c ∷ piece) rest plain =
    let deeper = first_begins c piece rest plain.1 in
    record { more = deeper.more; others = deeper.others; is = rw plain.0 (ap (λ (ls : List (List ℕ)). onto_first b ls) deeper.is) }

without_one : (b : Bool) (line : List ℕ) → length line ≤ length (cond b (take (length line - 1) line) line) + 1
without_one true line = omega (arith, length-take (length line - 1) line)
without_one false line = omega arith

without_feed-long : (line : List ℕ) → length line ≤ length (without_line_feed line) + 1
without_feed-long line = without_one (slice_index line (length line - 1) == 10) line

without_return-long : (line : List ℕ) → length line ≤ length (strip_carriage_return line) + 1
without_return-long line = without_one (slice_index line (length line - 1) == 13) line

-- an end line has seven bytes at most
pub is_end_line-long : (line : List ℕ) → 8 ≤ length line → is_end_line line ≡ false
is_end_line-long line long = false_from_ne_true (is_end_line line) (λ e.
    let same : strip_carriage_return (without_line_feed line) ≡ codes "%%end" = grind (arith, bytes_eq-Decides, e) in
    omega (arith, without_feed-long line, without_return-long (without_line_feed line), ap (λ (bs : List ℕ). length bs) same))

content_by : (b : Bool) (line : List ℕ) → length line ≤ length (cond b (strip_carriage_return (take (length line - 1) line)) line) + 2
content_by true line = omega (arith, length-take (length line - 1) line, without_return-long (take (length line - 1) line))
content_by false line = omega arith

pub content_of-long : (line : List ℕ) → length line ≤ length (content_of line) + 2
content_of-long line = content_by (slice_index line (length line - 1) == 10) line

-- the text that a long line begins holds it
pub text_before-long : (piece rest : List ℕ) → NoFeed piece → 8 ≤ length piece → length piece ≤ length (text_before (lines_of (piece ++ rest)))
unfolding text_before
text_before-long [] rest plain long = absurd (omega arith)
text_before-long (b ∷ piece) rest plain long =
    let first = first_begins b piece rest plain in
    let other : is_end_line ((b ∷ piece) ++ first.more) ≡ false = is_end_line-long ((b ∷ piece) ++ first.more) (omega (arith, length-append (b ∷ piece) first.more)) in
    rw (first.is, other) (omega (arith, length-append ((b ∷ piece) ++ first.more) (text_before first.others), length-append (b ∷ piece) first.more))
