-- Fronts of a text whose bytes pass a test.
use Rattle.std.proofs.Common.{◌≡◌, ℕ, ◌+◌, ◌-◌, ◌≤◌, ◌<◌, Bool, true, false, ◌&&◌, List, [], length, take, drop, get_or, refl, ap, ◌∙◌, arith, get_or-drop, length-drop, drop_of_length-le}
use Rattle.std.specs.List.{list_all, slice_range}
use Rattle.std.proofs.lemmas.List.Folds.{list_all_more}
use Rattle.text_meaning.specs.Bytes.{begins}
use Rattle.twelf_lexer.specs.Scans.{IsFront}
use Rattle.list_laws.proofs.Places.{here_and_on}

pub record PassesTo (test : ℕ → Bool) (text : List ℕ) (at to : ℕ) : Type 0 where
  pub forward : at ≤ to
  pub within : to ≤ length text
  pub passes : list_all test (slice_range text at to) ≡ true

pub none_yet : (test : ℕ → Bool) (text : List ℕ) (at : ℕ) → at ≤ length text → PassesTo test text at at
none_yet test text at h = record { forward = omega arith; within = h; passes = rw (zero_len at) refl }
  where
    zero_len : (n : ℕ) → n - n ≡ 0
    zero_len n = omega arith

pub one_more : (test : ℕ → Bool) (text : List ℕ) (at to : ℕ) → PassesTo test text at to → to < length text → test (get_or text to 0) ≡ true → PassesTo test text at (to + 1)
one_more test text at to p h t =
    let n : to + 1 - at ≡ to - at + 1 = omega (arith, p.forward) in
    let in_text : to - at < length (drop at text) = omega (arith, length-drop at text, p.forward, h) in
    let here : at + (to - at) ≡ to = omega (arith, p.forward) in
    let byte : get_or (drop at text) (to - at) 0 ≡ get_or text to 0 = get_or-drop at text (to - at) 0 ∙ ap (λ i. get_or text i 0) here in
    let last : test (get_or (drop at text) (to - at) 0) ≡ true = ap test byte ∙ t in
    record {
      forward = omega (arith, p.forward);
      within = omega (arith, h);
      passes = ap (λ k. list_all test (take k (drop at text))) n ∙ list_all_more test (drop at text) (to - at) 0 in_text ∙ both (p.passes) last;
    }
  where
    both : {a b : Bool} → a ≡ true → b ≡ true → (a && b) ≡ true
    both e f = rw (e, f) refl

pub none_left : (text : List ℕ) (at : ℕ) → length text ≤ at → drop at text ≡ []
none_left text at h = drop_of_length-le text h

pub ends_inside : (test : ℕ → Bool) (text : List ℕ) (at to : ℕ) → PassesTo test text at to → to < length text → test (get_or text to 0) ≡ false → IsFront test text at to
ends_inside test text at to p h t = record { forward = p.forward; within = p.within; passes = p.passes; ends = ap (begins test) (here_and_on text to h) ∙ t }

pub ends_outside : (test : ℕ → Bool) (text : List ℕ) (at to : ℕ) → PassesTo test text at to → length text ≤ to → IsFront test text at to
ends_outside test text at to p h = record { forward = p.forward; within = p.within; passes = p.passes; ends = ap (begins test) (none_left text to h) }
