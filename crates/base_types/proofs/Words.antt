-- Two words of eight bytes, of which the second begins with the last two of the first, tell fourteen bytes.
use Rattle.std.proofs.Common.{◌≡◌, ◌∙◌, ◌<◌, ◌≤◌, ◌+◌, ◌-◌, ◌⊎◌, ℕ, List, ◌++◌, inl, inr, leb, true, false, length, take, drop, replicate, get_or, nat_eq, ap, sym, subst, refl, arith}
use Rattle.std.specs.Int.{from_be_bytes, w64}
use Rattle.std.specs.Cmp.{unsigned_Decides}
use Rattle.std.specs.Cmp.Lexicographic.{pointwise, pointwise_decides}
use Rattle.std.proofs.lemmas.Bool.Decides.{Decides-like, leb_tells, same_from_decides}
use Rattle.std.proofs.lemmas.Nat.{be_bytes_8}
use Rattle.std.proofs.lemmas.List.{drop-drop, take-append-drop, length-take-le, length-drop, get_or-take, get_or-drop, get_or_past}

-- Bytes, and none where the list ends.
abbrev pub AreBytes : List ℕ → Type 0
AreBytes xs = (i : ℕ) → get_or xs i 0 < 256

-- A word has the bytes of which it is.
same_bytes : (xs ys : List ℕ) → length xs ≡ 8 → length ys ≡ 8 → AreBytes xs → AreBytes ys → from_be_bytes w64 xs ≡ from_be_bytes w64 ys → xs ≡ ys
same_bytes xs ys k l small less e = sym (be_bytes_8 xs (from_be_bytes w64 xs) k small refl) ∙ be_bytes_8 ys (from_be_bytes w64 xs) l less e

-- The bytes behind the eighth are among those behind the sixth.
behind : (xs ys : List ℕ) → drop 6 xs ≡ drop 6 ys → drop 8 xs ≡ drop 8 ys
behind xs ys e = sym (drop-drop 2 6 xs) ∙ ap (drop 2) e ∙ drop-drop 2 6 ys

-- What begins and ends alike is alike, where beginning and end meet.
same_ends : (xs ys : List ℕ) → take 8 xs ≡ take 8 ys → drop 6 xs ≡ drop 6 ys → xs ≡ ys
same_ends xs ys first last = sym (take-append-drop 8 xs) ∙ ap (λ front. front ++ drop 8 xs) first ∙ ap (λ back. take 8 ys ++ back) (behind xs ys last) ∙ take-append-drop 8 ys

-- The first and the last eight of bytes are bytes.
first_are_bytes : (xs : List ℕ) → length xs ≡ 14 → AreBytes xs → AreBytes (take 8 xs)
first_are_bytes xs l small i = by (leb_tells 8 i)
  where
    by : ((leb 8 i ≡ true) × (8 ≤ i)) ⊎ ((leb 8 i ≡ false) × (i < 8)) → get_or (take 8 xs) i 0 < 256
    by (inl p) = subst (λ n. n < 256) (sym (get_or_past (take 8 xs) i 0 (subst (λ n. n ≤ i) (sym (length-take-le 8 xs (omega arith))) p.1))) (omega arith)
    by (inr p) = subst (λ n. n < 256) (sym (get_or-take 8 xs i 0 p.1)) (small i)

last_are_bytes : (xs : List ℕ) → AreBytes xs → AreBytes (drop 6 xs)
last_are_bytes xs small i = subst (λ n. n < 256) (sym (get_or-drop 6 xs i 0)) (small (6 + i))

-- Where the words are equal, the bytes are.
same_words : (xs ys : List ℕ) → length xs ≡ 14 → length ys ≡ 14 → AreBytes xs → AreBytes ys → from_be_bytes w64 (take 8 xs) ≡ from_be_bytes w64 (take 8 ys) → from_be_bytes w64 (drop 6 xs) ≡ from_be_bytes w64 (drop 6 ys) → xs ≡ ys
same_words xs ys k l small less first last =
    same_ends xs ys
    (same_bytes (take 8 xs) (take 8 ys) (length-take-le 8 xs (omega arith)) (length-take-le 8 ys (omega arith)) (first_are_bytes xs k small) (first_are_bytes ys l less) first)
    (same_bytes (drop 6 xs) (drop 6 ys) (length-drop 6 xs ∙ ap (λ n. n - 6) k) (length-drop 6 ys ∙ ap (λ n. n - 6) l) (last_are_bytes xs small) (last_are_bytes ys less) last)

-- So beside equal first words the last ones tell whether the bytes are equal.
pub last_tells : (xs ys : List ℕ) → length xs ≡ 14 → length ys ≡ 14 → AreBytes xs → AreBytes ys → from_be_bytes w64 (take 8 xs) ≡ from_be_bytes w64 (take 8 ys) → (m n : ℕ) → m ≡ from_be_bytes w64 (drop 6 xs) → n ≡ from_be_bytes w64 (drop 6 ys) → nat_eq m n ≡ pointwise nat_eq xs ys
last_tells xs ys k l small less first m n p q =
    same_from_decides (nat_eq m n) (pointwise nat_eq xs ys)
    (Decides-like (nat_eq m n) (λ e. same_words xs ys k l small less first (sym p ∙ e ∙ q)) (λ e. p ∙ ap (λ zs. from_be_bytes w64 (drop 6 zs)) e ∙ sym q) (unsigned_Decides m n))
    (pointwise_decides unsigned_Decides xs ys)

-- Texts with the same zeros behind them are told by all the bytes.
pub zeros_tell : (xs ys : List ℕ) (m n : ℕ) → m ≡ n → drop m xs ≡ replicate (14 - m) 0 → drop n ys ≡ replicate (14 - n) 0 → pointwise nat_eq xs ys ≡ pointwise nat_eq (take m xs) (take n ys)
zeros_tell xs ys m n s p q =
    same_from_decides (pointwise nat_eq xs ys) (pointwise nat_eq (take m xs) (take n ys))
    (pointwise_decides unsigned_Decides xs ys)
    (Decides-like (pointwise nat_eq (take m xs) (take n ys)) whole (λ e. ap (take m) e ∙ ap (λ k. take k ys) s) (pointwise_decides unsigned_Decides (take m xs) (take n ys)))
  where
    whole : take m xs ≡ take n ys → xs ≡ ys
    whole e = sym (take-append-drop m xs) ∙ ap (λ front. front ++ drop m xs) e ∙ ap (λ back. take n ys ++ back) (p ∙ ap (λ k. replicate (14 - k) 0) s ∙ sym q) ∙ take-append-drop n ys
