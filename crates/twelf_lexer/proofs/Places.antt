-- What stands at a place of a text, and where it may be cut.
use Rattle.std.proofs.Common.{◌≡◌, ℕ, ◌+◌, ◌-◌, ◌≤◌, ◌<◌, Bool, true, false, List, ◌++◌, length, drop, get_or, sym, ap, subst, ◌∙◌, arith, inl, inr, IsUtf8, IsCharBoundary, true≢false, length-take-le, length-drop}
use Rattle.std.specs.List.{slice_range}
use Rattle.std.proofs.lemmas.Bool.{cases_lt}
use Rattle.std.proofs.lemmas.List.Folds.{drop_split}
use Rattle.std.proofs.lemmas.Str.{IsCharBoundary-end, IsCharBoundary-before_ascii, IsCharBoundary-after_ascii}
use Rattle.name_meaning.specs.Characters.{is_identifier_byte}
use Rattle.text_meaning.specs.Bytes.{begins}
use Rattle.twelf_lexer.proofs.Fronts.{none_left}
use Rattle.token_laws.proofs.Bytes.{low_byte}
use Rattle.list_laws.proofs.Places.{here_and_on}

pub begins_in : (test : ℕ → Bool) (text : List ℕ) (at : ℕ) → at < length text → begins test (drop at text) ≡ test (get_or text at 0)
begins_in test text at h = ap (begins test) (here_and_on text at h)

pub begins_out : (test : ℕ → Bool) (text : List ℕ) (at : ℕ) → length text ≤ at → begins test (drop at text) ≡ false
begins_out test text at h = ap (begins test) (none_left text at h)

-- a byte that stands there
pub record Stands (test : ℕ → Bool) (text : List ℕ) (at : ℕ) : Type 0 where
  pub within : at < length text
  pub passes : test (get_or text at 0) ≡ true

pub begins_at : (test : ℕ → Bool) (text : List ℕ) (at : ℕ) → begins test (drop at text) ≡ true → Stands test text at
begins_at test text at h =
    elim (cases_lt at (length text)) [
      | inl lt ↦ record { within = lt; passes = sym (begins_in test text at lt) ∙ h }
      | inr le ↦ absurd (true≢false (sym h ∙ begins_out test text at le))
    ]

-- where no identifier byte stands, a text may be cut
pub boundary_before : (text : List ℕ) (at : ℕ) → at ≤ length text → begins is_identifier_byte (drop at text) ≡ false → IsCharBoundary text at
boundary_before text at le h =
    elim (cases_lt at (length text)) [
      | inl lt ↦ IsCharBoundary-before_ascii text at lt (low_byte (get_or text at 0) (sym (begins_in is_identifier_byte text at lt) ∙ h))
      | inr ge ↦ let e : length text ≡ at = omega (arith, le, ge) in subst (IsCharBoundary text) e (IsCharBoundary-end text)
    ]

pub boundary_after : (text : List ℕ) (at b : ℕ) → IsUtf8 text → at < length text → get_or text at 0 ≡ b → b < 128 → IsCharBoundary text (at + 1)
boundary_after text at b u lt e low = IsCharBoundary-after_ascii text at u lt (subst (λ x. x < 128) (sym e) low)

-- the bytes of a front
pub front_length : (text : List ℕ) (at to : ℕ) → at ≤ to → to ≤ length text → length (slice_range text at to) ≡ to - at
front_length text at to h k = length-take-le (to - at) (drop at text) (omega (arith, length-drop at text, h, k))

pub front_parts : (text : List ℕ) (at to : ℕ) → at ≤ to → drop at text ≡ slice_range text at to ++ drop to text
front_parts text at to h = drop_split text at to h
