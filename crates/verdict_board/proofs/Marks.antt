-- Bits that are set, and stay so.
use Rattle.std.proofs.Common.{◌≡◌, ℕ, ◌+◌, ◌*◌, ◌%◌, ◌^◌, ◌<◌, suc, fold, List, [], ◌∷◌, take, slice_get, Some, bit_or, ⊎_elim, sym, ap, ◌∙◌, subst, arith}
use Rattle.std.specs.Int.{bit_at}
use Rattle.std.proofs.lemmas.List.Sums.{fold-append}
use Rattle.std.proofs.Math.Pow.{pow-lt}
use Rattle.std.proofs.lemmas.Nat.Bits.{bit_at_or, bit_at-lt, bit_at-pow_same}
use Rattle.name_meaning.specs.Names.{Name, with_name}
use Rattle.name_laws.proofs.Order.{in_with}
use Rattle.module_graph.specs.Merging.{IsMerge}
use Rattle.list_laws.proofs.Members.{Member, in_append}
use Rattle.list_laws.proofs.Places.{take_more}
use Rattle.verdict_board.specs.Marks.{bit_of, AreMarked}

-- the place of the bit after one more byte
pub bit_next : (bytes : Name) (i byte : ℕ) → slice_get bytes i ≡ Some byte → bit_of (take (suc i) bytes) ≡ (bit_of (take i bytes) * 31 + byte) % 64
unfolding bit_of
bit_next bytes i byte here = ap bit_of (take_more bytes i byte here) ∙ fold-append (λ (number byte : ℕ). (number * 31 + byte) % 64) 0 (take i bytes) (byte ∷ [])

pub bit_within : (bytes : Name) → bit_of bytes < 64
unfolding bit_of
bit_within bytes = from bytes 0 (omega arith)
  where
    from : (bytes : Name) (start : ℕ) → start < 64 → fold (λ (number byte : ℕ). (number * 31 + byte) % 64) start bytes < 64
    from [] start h = h
    from (byte ∷ bytes) start h = from bytes ((start * 31 + byte) % 64) (omega arith)

-- a bit that is set stays so where others are set
still_set : (marks more i : ℕ) → bit_at marks i ≡ 1 → bit_at (bit_or marks more) i ≡ 1
still_set marks more i h = let o = bit_at_or marks more i in omega (arith, h, o)

now_set : (marks i : ℕ) → bit_at (bit_or marks (2 ^ i)) i ≡ 1
now_set marks i = let o = bit_at_or marks (2 ^ i) i in let s = bit_at-pow_same i in omega (arith, o, s)

-- the bit of one more name
pub marked_next : (names : List Name) (i : ℕ) (name : Name) (marks : ℕ) → slice_get names i ≡ Some name → AreMarked (take i names) marks → AreMarked (take (suc i) names) (bit_or marks (2 ^ bit_of name))
marked_next names i name marks here so_far other m =
    ⊎_elim (λ q. still_set marks (2 ^ bit_of name) (bit_of other) (so_far other q))
    (λ q. ⊎_elim (λ e. subst (λ z. bit_at (bit_or marks (2 ^ bit_of name)) (bit_of z) ≡ 1) (sym e) (now_set marks (bit_of name))) (λ none. absurd none) q)
    (in_append (take i names) _ other (subst (Member other) (take_more names i name here) m))

-- the bits of both lists
pub marked_both : (left right names : List Name) (a b : ℕ) → AreMarked left a → AreMarked right b → IsMerge left right names → AreMarked names (bit_or a b)
marked_both left right names a b h g m other n =
    ⊎_elim (λ q. still_set a b (bit_of other) (h other q)) (λ q. by (g other q)) (m.comes other n)
  where
    by : bit_at b (bit_of other) ≡ 1 → bit_at (bit_or a b) (bit_of other) ≡ 1
    by e = let o = bit_at_or a b (bit_of other) in let w = bit_at-lt a (bit_of other) in omega (arith, o, e, w)

-- the bit of one more name at its place
pub marked_with : (names : List Name) (name : Name) (marks : ℕ) → AreMarked names marks → AreMarked (with_name name names) (bit_or marks (2 ^ bit_of name))
marked_with names name marks h other m =
    ⊎_elim (λ e. subst (λ z. bit_at (bit_or marks (2 ^ bit_of name)) (bit_of z) ≡ 1) (sym e) (now_set marks (bit_of name)))
    (λ q. still_set marks (2 ^ bit_of name) (bit_of other) (h other q))
    (in_with name names other m)

-- a power below the type's bound is shifted whole
pub power : (i : ℕ) → i < 64 → (1 * 2 ^ i) % 18446744073709551616 ≡ 2 ^ i
power i h = let p : 2 ^ i < 18446744073709551616 = pow-lt h in omega (arith, p)
