-- The lines of bytes that go on.
use Rattle.std.proofs.Common.{◌≡◌, ℕ, ◌<◌, Bool, true, false, cond, List, [], ◌∷◌, ◌++◌, length, refl, ap, ◌∙◌, arith}
use Rattle.std.specs.Prelude.{◌==◌, Option, Some}
use Rattle.printing_meaning.specs.Lines.{onto_first, lines_of}
use Rattle.printing_meaning.specs.ScriptLines.{is_end_line, text_before, behind_end}
use Rattle.run_laws.specs.RunLaws.{ends_in_feed}

onto_first-length : (byte : ℕ) (lines : List (List ℕ)) → 0 < length (onto_first byte lines)
onto_first-length byte [] = omega arith
onto_first-length byte (line ∷ lines) = omega arith

some_line : (b : Bool) (byte : ℕ) (lines : List (List ℕ)) → 0 < length (cond b ((byte ∷ []) ∷ lines) (onto_first byte lines))
some_line true byte lines = omega arith
some_line false byte lines = onto_first-length byte lines

-- bytes have a line
lines_of-some : (byte : ℕ) (bytes : List ℕ) → 0 < length (lines_of (byte ∷ bytes))
unfolding lines_of
lines_of-some byte bytes = some_line (byte == 10) byte (lines_of bytes)

onto_first-append : (byte : ℕ) (lines more : List (List ℕ)) → 0 < length lines → onto_first byte (lines ++ more) ≡ onto_first byte lines ++ more
onto_first-append byte [] more h = absurd (omega arith)
onto_first-append byte (line ∷ lines) more h = refl

cut_append : (b : Bool) (byte : ℕ) (lines more : List (List ℕ)) → 0 < length lines
    → cond b ((byte ∷ []) ∷ (lines ++ more)) (onto_first byte (lines ++ more)) ≡ cond b ((byte ∷ []) ∷ lines) (onto_first byte lines) ++ more
cut_append true byte lines more h = refl
cut_append false byte lines more h = onto_first-append byte lines more h

-- whole lines, and then the lines of what follows them
pub lines_of-append : (bytes more : List ℕ) → ends_in_feed bytes ≡ true → lines_of (bytes ++ more) ≡ lines_of bytes ++ lines_of more
unfolding lines_of ends_in_feed
lines_of-append [] more h = refl
lines_of-append (byte ∷ []) more h = rw h refl
lines_of-append (byte ∷ second ∷ bytes) more h =
    let later : lines_of (second ∷ (bytes ++ more)) ≡ lines_of (second ∷ bytes) ++ lines_of more = lines_of-append (second ∷ bytes) more h in
    ap (λ (ls : List (List ℕ)). cond (byte == 10) ((byte ∷ []) ∷ ls) (onto_first byte ls)) later
    ∙ cut_append (byte == 10) byte (lines_of (second ∷ bytes)) (lines_of more) (lines_of-some second bytes)

-- a text that has its end line has it in a longer input
before_by : (b : Bool) (line : List ℕ) (shorter longer : List ℕ) → (b ≡ false → longer ≡ shorter)
    → cond b [] (line ++ longer) ≡ cond b [] (line ++ shorter)
before_by true line shorter longer h = refl
before_by false line shorter longer h = ap (λ (bs : List ℕ). line ++ bs) (h refl)

pub text_before-append : (lines more rest : List (List ℕ)) → behind_end lines ≡ Some rest → text_before (lines ++ more) ≡ text_before lines
unfolding text_before behind_end
text_before-append [] more rest e = absurd cc
text_before-append (line ∷ lines) more rest e =
    before_by (is_end_line line) line (text_before lines) (text_before (lines ++ more))
    (λ other. text_before-append lines more rest (behind_by (is_end_line line) other e))
  where
    behind_by : (b : Bool) → b ≡ false → cond b (Some lines) (behind_end lines) ≡ Some rest → behind_end lines ≡ Some rest
    behind_by true f h = absurd cc
    behind_by false f h = h

behind_append_by : (b : Bool) (lines more rest : List (List ℕ)) (shorter longer : Option (List (List ℕ)))
    → (shorter ≡ Some rest → longer ≡ Some (rest ++ more))
    → cond b (Some lines) shorter ≡ Some rest → cond b (Some (lines ++ more)) longer ≡ Some (rest ++ more)
behind_append_by true lines more rest shorter longer h e = let same : lines ≡ rest = cc in ap (λ (ls : List (List ℕ)). Some (ls ++ more)) same
behind_append_by false lines more rest shorter longer h e = h e

pub behind_end-append : (lines more rest : List (List ℕ)) → behind_end lines ≡ Some rest → behind_end (lines ++ more) ≡ Some (rest ++ more)
unfolding behind_end
behind_end-append [] more rest e = absurd cc
behind_end-append (line ∷ lines) more rest e =
    behind_append_by (is_end_line line) lines more rest (behind_end lines) (behind_end (lines ++ more)) (λ h. behind_end-append lines more rest h) e
