-- What a write that is cut short leaves.
use Rattle.std.proofs.Common.{◌≡◌, ◌↔◌, ℕ, zero, suc, ◌+◌, ◌≤◌, List, [], ◌∷◌, ◌++◌, length, take, drop, refl, sym, ap, ◌∙◌, arith, length-append, length-drop, take-append-drop, append_assoc}
use Rattle.std.proofs.lemmas.List.{take_at, drop_at, drop_all, drop-drop, length-take-le}
use Rattle.saved_log_meaning.specs.Disks.{Holds, Torn}

pub nothing_is_torn : (at count : ℕ) (old : List ℕ) → Torn at count old old
nothing_is_torn at count old = record { before = refl; behind = refl; no_shorter = omega arith; no_longer = omega arith }

-- What stands in place of the range.
abbrev pub InPlace : ℕ → ℕ → List ℕ → List ℕ → Type 0
InPlace at count old new = (bytes : List ℕ) × (new ≡ take at old ++ (bytes ++ drop (at + count) old)) × (length bytes ≤ count) × (length old ≤ length new)

take_few : (xs : List ℕ) (n : ℕ) → length (take n xs) ≤ n
take_few xs zero = omega arith
take_few [] (suc n) = omega arith
take_few (x ∷ xs) (suc n) = let few = take_few xs n in omega (arith, few)

pub torn_in_place : (at count : ℕ) (old new : List ℕ) → Torn at count old new → InPlace at count old new
torn_in_place at count old new torn =
    let bytes = take count (drop at new) in
    let rest : drop at new ≡ bytes ++ drop (at + count) old = sym (take-append-drop count (drop at new)) ∙ ap (λ (l : List ℕ). bytes ++ l) (drop-drop count at new ∙ torn.behind) in (
      bytes,
      sym (take-append-drop at new) ∙ ap (λ (l : List ℕ). l ++ drop at new) torn.before ∙ ap (λ (l : List ℕ). take at old ++ l) rest,
      take_few (drop at new) count,
      torn.no_shorter,
    )

pub in_place_torn : (at count : ℕ) (old new bytes : List ℕ) → at ≤ length old → new ≡ take at old ++ (bytes ++ drop (at + count) old) → length bytes ≤ count → length old ≤ length new → Torn at count old new
in_place_torn at count old new bytes within is few long =
    let head : length (take at old) ≡ at = length-take-le at old within in
    let tail = length-drop (at + count) old in
    let sizes : length new ≡ at + (length bytes + length (drop (at + count) old)) = omega (arith, ap length is, length-append (take at old) (bytes ++ drop (at + count) old), length-append bytes (drop (at + count) old), head) in
    record {
      before = ap (λ (l : List ℕ). take at l) is ∙ take_at (take at old) (bytes ++ drop (at + count) old) at head;
      behind = by_rest (drop (at + count) old) refl;
      no_shorter = long;
      no_longer = omega (arith, sizes, few, tail, within);
    }
  where
    by_rest : (rest : List ℕ) → drop (at + count) old ≡ rest → drop (at + count) new ≡ drop (at + count) old
    by_rest [] none =
        let short : length new ≤ at + count = omega (arith, ap length is, length-append (take at old) (bytes ++ drop (at + count) old), length-append bytes (drop (at + count) old), length-take-le at old within, ap length none, few) in
        drop_all (at + count) new short ∙ sym none
    by_rest (x ∷ rest) some =
        let full : length bytes ≡ count = omega (arith, ap length is, length-append (take at old) (bytes ++ drop (at + count) old), length-append bytes (drop (at + count) old), length-take-le at old within, length-drop (at + count) old, ap length some, few, long) in
        let head : length (take at old ++ bytes) ≡ at + count = omega (arith, length-append (take at old) bytes, length-take-le at old within, full) in
        ap (λ (l : List ℕ). drop (at + count) l) (is ∙ sym (append_assoc (take at old) bytes (drop (at + count) old))) ∙ drop_at (take at old ++ bytes) (drop (at + count) old) (at + count) head

pub torn_means : (at count : ℕ) (old new : List ℕ) → at ≤ length old → Torn at count old new ↔ InPlace at count old new
torn_means at count old new within = (torn_in_place at count old new, λ (is : InPlace at count old new). in_place_torn at count old new is.0 within is.1 is.2 is.3)

pub written_is_torn : (at : ℕ) (bytes old new : List ℕ) → at ≤ length old → Holds old at bytes new → Torn at (length bytes) old new
written_is_torn at bytes old new within holds =
    let is : new ≡ take at old ++ (bytes ++ drop (at + length bytes) old) = holds ∙ append_assoc (take at old) bytes (drop (at + length bytes) old) in
    in_place_torn at (length bytes) old new bytes within is (omega arith)
    (omega (arith, ap length is, length-append (take at old) (bytes ++ drop (at + length bytes) old), length-append bytes (drop (at + length bytes) old), length-take-le at old within, length-drop (at + length bytes) old))
