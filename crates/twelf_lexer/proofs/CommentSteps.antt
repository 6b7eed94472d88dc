-- A comment, pair by pair.
use Rattle.std.proofs.Common.{◌≡◌, ℕ, zero, suc, ◌+◌, ◌≤◌, ◌<◌, true, false, ◌&&◌, ◌==◌, List, [], ◌∷◌, length, drop, get_or, refl, sym, ap, ◌∙◌, arith, length-drop, ◌-◌, ◌≢◌, eqb-true}
use Rattle.text_meaning.specs.Cut.{Unclosed}
use Rattle.text_meaning.specs.Cutting.{InComment, closed_place, cut_on}
use Rattle.token_laws.proofs.Steps.{pair_opens, pair_closes, pair_passes, comment_ends, one_left}
use Rattle.twelf_lexer.specs.Scans.{Closes, StaysOpen}
use Rattle.list_laws.proofs.Booleans.{and_second}
use Rattle.list_laws.proofs.Places.{here_and_on}

-- so far the comment goes on as from its beginning
pub record InnerTo (text : List ℕ) (at to inner : ℕ) : Type 0 where
  pub forward : at ≤ to
  pub within : to ≤ length text
  pub few : inner ≤ to
  pub same : (from : ℕ) → cut_on (InComment from inner) to (drop to text) ≡ cut_on (InComment from 0) at (drop at text)

pub begins_inner : (text : List ℕ) (at : ℕ) → at ≤ length text → InnerTo text at at 0
begins_inner text at h = record { forward = omega arith; within = h; few = omega arith; same = λ from. refl }

two_here : (text : List ℕ) (to : ℕ) → to + 1 < length text → drop to text ≡ get_or text to 0 ∷ get_or text (to + 1) 0 ∷ drop (to + 2) text
two_here text to h =
    let n : to + 1 + 1 ≡ to + 2 = omega arith in
    here_and_on text to (omega (arith, h)) ∙ ap (λ l. get_or text to 0 ∷ l) (here_and_on text (to + 1) h) ∙ ap (λ k. get_or text to 0 ∷ get_or text (to + 1) 0 ∷ drop k text) n

pub opens_inner : (text : List ℕ) (at to inner : ℕ) → InnerTo text at to inner → to + 1 < length text → (get_or text to 0 == 37 && get_or text (to + 1) 0 == 123) ≡ true → InnerTo text at (to + 2) (inner + 1)
opens_inner text at to inner i h k =
    let n : suc inner ≡ inner + 1 = omega arith in
    record {
      forward = omega (arith, i.forward);
      within = omega (arith, h);
      few = omega (arith, i.few);
      same = λ from. ap (λ m. cut_on (InComment from m) (to + 2) (drop (to + 2) text)) (sym n)
          ∙ sym (ap (cut_on (InComment from inner) to) (two_here text to h) ∙ pair_opens from inner to (get_or text to 0) (get_or text (to + 1) 0) (drop (to + 2) text) k) ∙ i.same from;
    }

closes_to : (text : List ℕ) (at to inner : ℕ) → InnerTo text at to inner → to + 1 < length text → (get_or text to 0 == 125 && get_or text (to + 1) 0 == 37) ≡ true
    → (from : ℕ) → cut_on (closed_place from inner) (to + 2) (drop (to + 2) text) ≡ cut_on (InComment from 0) at (drop at text)
closes_to text at to inner i h k from =
    sym (ap (cut_on (InComment from inner) to) (two_here text to h) ∙ pair_closes from inner to (get_or text to 0) (get_or text (to + 1) 0) (drop (to + 2) text) k) ∙ i.same from

pub closes_last : (text : List ℕ) (at to inner : ℕ) → InnerTo text at to inner → to + 1 < length text → (get_or text to 0 == 125 && get_or text (to + 1) 0 == 37) ≡ true → inner ≡ 0 → Closes text at (to + 2)
closes_last text at to inner i h k z =
    let n : to + 2 - 1 ≡ to + 1 = omega arith in
    record {
      forward = omega (arith, i.forward);
      within = omega (arith, h);
      ends = ap (λ j. get_or text j 0) n ∙ eqb-true (get_or text (to + 1) 0) 37 (and_second (get_or text to 0 == 125) _ k);
      closes = λ from. sym (ap (λ m. cut_on (closed_place from m) (to + 2) (drop (to + 2) text)) (sym z) ∙ closes_to text at to inner i h k from);
    }

pub closes_inner : (text : List ℕ) (at to inner : ℕ) → InnerTo text at to inner → to + 1 < length text → (get_or text to 0 == 125 && get_or text (to + 1) 0 == 37) ≡ true → inner ≢ 0 → InnerTo text at (to + 2) (inner - 1)
closes_inner text at to inner i h k z = go inner refl
  where
    go : (n : ℕ) → inner ≡ n → InnerTo text at (to + 2) (inner - 1)
    go zero e = absurd (z e)
    go (suc n) e =
        let m : inner - 1 ≡ n = omega (arith, e) in
        record {
          forward = omega (arith, i.forward);
          within = omega (arith, h);
          few = omega (arith, i.few);
          same = λ from. ap (λ j. cut_on (InComment from j) (to + 2) (drop (to + 2) text)) m ∙ ap (λ j. cut_on (closed_place from j) (to + 2) (drop (to + 2) text)) (sym e) ∙ closes_to text at to inner i h k from;
        }

pub passes_inner : (text : List ℕ) (at to inner : ℕ) → InnerTo text at to inner → to + 1 < length text → (get_or text to 0 == 37 && get_or text (to + 1) 0 == 123) ≡ false
    → (get_or text to 0 == 125 && get_or text (to + 1) 0 == 37) ≡ false → InnerTo text at (to + 1) inner
passes_inner text at to inner i h k l =
    let n : to + 1 + 1 ≡ to + 2 = omega arith in
    let rest : drop (to + 1) text ≡ get_or text (to + 1) 0 ∷ drop (to + 2) text = here_and_on text (to + 1) h ∙ ap (λ k. get_or text (to + 1) 0 ∷ drop k text) n in
    record {
      forward = omega (arith, i.forward);
      within = omega (arith, h);
      few = omega (arith, i.few);
      same = λ from. ap (cut_on (InComment from inner) (to + 1)) rest
          ∙ sym (ap (cut_on (InComment from inner) to) (two_here text to h) ∙ pair_passes from inner to (get_or text to 0) (get_or text (to + 1) 0) (drop (to + 2) text) k l) ∙ i.same from;
    }

pub stays_open : (text : List ℕ) (at to inner : ℕ) → InnerTo text at to inner → length text ≤ to + 1 → StaysOpen text at
stays_open text at to inner i h from = sym (i.same from) ∙ go (drop to text) (omega (arith, length-drop to text, h))
  where
    go : (bs : List ℕ) → length bs ≤ 1 → cut_on (InComment from inner) to bs ≡ record { tokens = []; ending = Unclosed from }
    go [] l = comment_ends from inner to
    go (b ∷ []) l = one_left from inner to b
    go (b ∷ c ∷ bs) l = absurd (omega (arith, l))
