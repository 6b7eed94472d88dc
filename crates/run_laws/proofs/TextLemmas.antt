-- A text that is read line by line, up to its end line.
use Rattle.std.proofs.Common.{◌≡◌, ℕ, ◌+◌, ◌≤◌, ◌<◌, Bool, true, false, cond, List, [], ◌∷◌, ◌++◌, length, refl, sym, ap, ◌∙◌, arith, append_assoc}
use Rattle.std.specs.Prelude.{Option, Some, None}
use Rattle.std.proofs.lemmas.List.{append-nil, length-append}
use Rattle.printing_meaning.specs.Lines.{lines_of, NoFeed}
use Rattle.printing_meaning.specs.ScriptLines.{is_end_line, text_before, behind_end}
use Rattle.run_laws.proofs.LineLemmas.{lines_of-whole, lines_of-last}

-- these are so many whole lines, none of which is an end line
pub record IsTextSoFar (count : ℕ) (text : List ℕ) : Type 0 where
  pub before : (rest : List ℕ) → text_before (lines_of (text ++ rest)) ≡ text ++ text_before (lines_of rest)
  pub behind : (rest : List ℕ) → behind_end (lines_of (text ++ rest)) ≡ behind_end (lines_of rest)
  pub lines : (rest : List ℕ) → length (lines_of (text ++ rest)) ≡ count + length (lines_of rest)

pub IsTextSoFar-nil : IsTextSoFar 0 []
IsTextSoFar-nil = record { before = λ rest. refl; behind = λ rest. refl; lines = λ rest. omega arith }

text_before-other : (line : List ℕ) (lines : List (List ℕ)) → is_end_line line ≡ false → text_before (line ∷ lines) ≡ line ++ text_before lines
unfolding text_before
text_before-other line lines other = rw other refl

text_before-end : (line : List ℕ) (lines : List (List ℕ)) → is_end_line line ≡ true → text_before (line ∷ lines) ≡ []
unfolding text_before
text_before-end line lines end = rw end refl

behind_end-other : (line : List ℕ) (lines : List (List ℕ)) → is_end_line line ≡ false → behind_end (line ∷ lines) ≡ behind_end lines
unfolding behind_end
behind_end-other line lines other = rw other refl

behind_end-end : (line : List ℕ) (lines : List (List ℕ)) → is_end_line line ≡ true → behind_end (line ∷ lines) ≡ Some lines
unfolding behind_end
behind_end-end line lines end = rw end refl

-- the bytes begin with this line
pub IsFirstLine : List ℕ → List ℕ → Type 0
IsFirstLine line rest = lines_of (line ++ rest) ≡ line ∷ lines_of rest

pub first_line-feed : (xs rest : List ℕ) → NoFeed xs → lines_of ((xs ++ (10 ∷ [])) ++ rest) ≡ (xs ++ (10 ∷ [])) ∷ lines_of rest
first_line-feed xs rest plain = ap (λ (bs : List ℕ). lines_of bs) (append_assoc xs (10 ∷ []) rest) ∙ lines_of-whole xs rest plain

pub IsTextSoFar-more : (count : ℕ) (text line : List ℕ) → IsTextSoFar count text
    → ((rest : List ℕ) → lines_of (line ++ rest) ≡ line ∷ lines_of rest) → is_end_line line ≡ false → IsTextSoFar (count + 1) (text ++ line)
IsTextSoFar-more count text line so_far first other = record {
  before = λ rest. ap (λ (bs : List ℕ). text_before (lines_of bs)) (append_assoc text line rest) ∙ so_far.before (line ++ rest)
      ∙ ap (λ (bs : List ℕ). text ++ bs) (ap (λ (ls : List (List ℕ)). text_before ls) (first rest) ∙ text_before-other line (lines_of rest) other)
      ∙ sym (append_assoc text line (text_before (lines_of rest)));
  behind = λ rest. ap (λ (bs : List ℕ). behind_end (lines_of bs)) (append_assoc text line rest) ∙ so_far.behind (line ++ rest)
      ∙ ap (λ (ls : List (List ℕ)). behind_end ls) (first rest) ∙ behind_end-other line (lines_of rest) other;
  lines = λ rest.
      let whole : length (lines_of ((text ++ line) ++ rest)) ≡ count + length (lines_of (line ++ rest)) =
      ap (λ (bs : List ℕ). length (lines_of bs)) (append_assoc text line rest) ∙ so_far.lines (line ++ rest) in
      let one : length (lines_of (line ++ rest)) ≡ length (line ∷ lines_of rest) = ap (λ (ls : List (List ℕ)). length ls) (first rest) in
      omega arith;
}

-- the end line comes next
pub record EndsText (count : ℕ) (text line rest : List ℕ) : Type 0 where
  pub before : text_before (lines_of ((text ++ line) ++ rest)) ≡ text
  pub behind : behind_end (lines_of ((text ++ line) ++ rest)) ≡ Some (lines_of rest)
  pub lines : length (lines_of ((text ++ line) ++ rest)) ≡ count + 1 + length (lines_of rest)

pub text_ends : (count : ℕ) (text line rest : List ℕ) → IsTextSoFar count text → lines_of (line ++ rest) ≡ line ∷ lines_of rest → is_end_line line ≡ true
    → EndsText count text line rest
text_ends count text line rest so_far first end = record {
  before = ap (λ (bs : List ℕ). text_before (lines_of bs)) (append_assoc text line rest) ∙ so_far.before (line ++ rest)
      ∙ ap (λ (bs : List ℕ). text ++ bs) (ap (λ (ls : List (List ℕ)). text_before ls) first ∙ text_before-end line (lines_of rest) end)
      ∙ append-nil text;
  behind = ap (λ (bs : List ℕ). behind_end (lines_of bs)) (append_assoc text line rest) ∙ so_far.behind (line ++ rest)
      ∙ ap (λ (ls : List (List ℕ)). behind_end ls) first ∙ behind_end-end line (lines_of rest) end;
  lines =
      let whole : length (lines_of ((text ++ line) ++ rest)) ≡ count + length (lines_of (line ++ rest)) =
      ap (λ (bs : List ℕ). length (lines_of bs)) (append_assoc text line rest) ∙ so_far.lines (line ++ rest) in
      let one : length (lines_of (line ++ rest)) ≡ length (line ∷ lines_of rest) = ap (λ (ls : List (List ℕ)). length ls) first in
      omega arith;
}

-- the last line is no end line, and may be empty
pub record RunsOut (text line : List ℕ) : Type 0 where
  pub before : text_before (lines_of (text ++ line)) ≡ text ++ line
  pub behind : behind_end (lines_of (text ++ line)) ≡ None

pub text_runs_out : (count : ℕ) (text line : List ℕ) → IsTextSoFar count text → NoFeed line → is_end_line line ≡ false → RunsOut text line
unfolding lines_of text_before behind_end
text_runs_out count text [] so_far plain other = record {
  before = so_far.before [];
  behind = so_far.behind [];
}
text_runs_out count text (b ∷ bs) so_far plain other = record {
  before = so_far.before (b ∷ bs) ∙ ap (λ (ds : List ℕ). text ++ ds)
      (ap (λ (ls : List (List ℕ)). text_before ls) (lines_of-last b bs plain) ∙ text_before-other (b ∷ bs) [] other ∙ append-nil (b ∷ bs));
  behind = so_far.behind (b ∷ bs) ∙ ap (λ (ls : List (List ℕ)). behind_end ls) (lines_of-last b bs plain) ∙ behind_end-other (b ∷ bs) [] other;
}

-- a text is at least as long as the whole lines that it begins with
pub text_longer : (count : ℕ) (text rest : List ℕ) → IsTextSoFar count text → length text ≤ length (text_before (lines_of (text ++ rest)))
text_longer count text rest so_far =
    omega (arith, ap (λ (bs : List ℕ). length bs) (so_far.before rest), length-append text (text_before (lines_of rest)))

shorter_by : (b : Bool) (line : List ℕ) (lines rest : List (List ℕ)) (deeper : Option (List (List ℕ)))
    → (deeper ≡ Some rest → length rest < length lines) → cond b (Some lines) deeper ≡ Some rest → length rest < length (line ∷ lines)
shorter_by true line lines rest deeper h e = let same : lines ≡ rest = cc in rw (← same) (omega arith)
shorter_by false line lines rest deeper h e = let shorter : length rest < length lines = h e in omega arith

-- the lines behind an end line are fewer
pub behind_end-shorter : (lines rest : List (List ℕ)) → behind_end lines ≡ Some rest → length rest < length lines
unfolding behind_end
behind_end-shorter [] rest e = absurd cc
behind_end-shorter (line ∷ lines) rest e =
    shorter_by (is_end_line line) line lines rest (behind_end lines) (λ h. behind_end-shorter lines rest h) e
