-- Line feeds and what follows the last of them, in a list that is made of two.
use Rattle.std.specs.Prelude.{◌==◌}
use Rattle.std.specs.List.{count_by, prefix_len, suffix_len}
use Rattle.std.proofs.Common.{◌≡◌, ℕ, zero, suc, ◌+◌, ◌<◌, ◌≤◌, Bool, true, false, cond, not, List, [], ◌∷◌, ◌++◌, length, take, drop, reverse, refl, sym, ap, ◌∙◌, arith}
use Rattle.std.proofs.lemmas.List.{reverse-append}
use Rattle.std.proofs.lemmas.List.Sums.{sum_by-cons, sum_by-append}
use Rattle.text_meaning.specs.Places.{line_at, column_at}
use Rattle.place_laws.specs.FilePlaceLaws.{LinesGoOn, ColumnsGoOn, ColumnsAreTheSame}

abbrev is_end : ℕ → Bool
is_end byte = byte == 10

abbrev is_within : ℕ → Bool
is_within byte = not (byte == 10)

abbrev one_if : ℕ → ℕ
one_if byte = cond (is_end byte) 1 0

-- ---- counts

counted_parts : (xs ys : List ℕ) → count_by is_end (xs ++ ys) ≡ count_by is_end xs + count_by is_end ys
counted_parts xs ys = sum_by-append one_if xs ys

counted_cons : (x : ℕ) (xs : List ℕ) → count_by is_end (x ∷ xs) ≡ one_if x + count_by is_end xs
counted_cons x xs = sum_by-cons one_if x xs

counted_back : (xs : List ℕ) → count_by is_end (reverse xs) ≡ count_by is_end xs
counted_back [] = refl
counted_back (x ∷ xs) =
    let last = reverse-append (x ∷ []) xs in
    let parts = counted_parts (reverse xs) (x ∷ []) in
    let first = counted_cons x xs in
    let one = counted_cons x [] in
    let rest = counted_back xs in
    ap (count_by is_end) last ∙ parts ∙ omega (arith, first, one, rest)

-- ---- what stands in front of the first line feed

-- where there is none, everything
all_within : (xs : List ℕ) → count_by is_end xs ≡ 0 → prefix_len is_within xs ≡ length xs
all_within [] h = refl
all_within (x ∷ xs) h = by (all_within xs) (is_end x) refl
  where
    by : (count_by is_end xs ≡ 0 → prefix_len is_within xs ≡ length xs) → (b : Bool) → is_end x ≡ b
        → cond (not (is_end x)) (1 + prefix_len is_within xs) 0 ≡ suc (length xs)
    by within true e = let c = counted_cons x xs in let one = ap {B = ℕ} (λ z. cond z 1 0) e in absurd (omega (arith, c, one, h))
    by within false e =
        let c = counted_cons x xs in
        let none = ap {B = ℕ} (λ z. cond z 1 0) e in
        let rest = within (omega (arith, c, none, h)) in
        ap {B = ℕ} (λ z. cond (not z) (1 + prefix_len is_within xs) 0) e ∙ omega (arith, rest)

-- what follows the list does not count, where there is one
first_part : (xs ys : List ℕ) → 0 < count_by is_end xs → prefix_len is_within (xs ++ ys) ≡ prefix_len is_within xs
first_part [] ys h = absurd (omega (arith, h))
first_part (x ∷ xs) ys h = by (first_part xs ys) (is_end x) refl
  where
    by : (0 < count_by is_end xs → prefix_len is_within (xs ++ ys) ≡ prefix_len is_within xs) → (b : Bool) → is_end x ≡ b
        → cond (not (is_end x)) (1 + prefix_len is_within (xs ++ ys)) 0 ≡ cond (not (is_end x)) (1 + prefix_len is_within xs) 0
    by behind true e = ap {B = ℕ} (λ z. cond (not z) (1 + prefix_len is_within (xs ++ ys)) 0) e ∙ ap {B = ℕ} (λ z. cond (not z) (1 + prefix_len is_within xs) 0) (sym e)
    by behind false e =
        let c = counted_cons x xs in
        let none = ap {B = ℕ} (λ z. cond z 1 0) e in
        ap (λ n. cond (not (is_end x)) (1 + n) 0) (behind (omega (arith, c, none, h)))

both_parts : (xs ys : List ℕ) → count_by is_end xs ≡ 0 → prefix_len is_within (xs ++ ys) ≡ length xs + prefix_len is_within ys
both_parts [] ys h = omega arith
both_parts (x ∷ xs) ys h = by (both_parts xs ys) (is_end x) refl
  where
    by : (count_by is_end xs ≡ 0 → prefix_len is_within (xs ++ ys) ≡ length xs + prefix_len is_within ys) → (b : Bool) → is_end x ≡ b
        → cond (not (is_end x)) (1 + prefix_len is_within (xs ++ ys)) 0 ≡ suc (length xs) + prefix_len is_within ys
    by behind true e = let c = counted_cons x xs in let one = ap {B = ℕ} (λ z. cond z 1 0) e in absurd (omega (arith, c, one, h))
    by behind false e =
        let c = counted_cons x xs in
        let none = ap {B = ℕ} (λ z. cond z 1 0) e in
        let rest = behind (omega (arith, c, none, h)) in
        ap {B = ℕ} (λ z. cond (not z) (1 + prefix_len is_within (xs ++ ys)) 0) e ∙ omega (arith, rest)

-- ---- what follows the last line feed

suffix_on : (xs ys : List ℕ) → count_by is_end ys ≡ 0 → suffix_len is_within (xs ++ ys) ≡ suffix_len is_within xs + suffix_len is_within ys
suffix_on xs ys h =
    let none = counted_back ys ∙ h in
    let whole = all_within (reverse ys) none in
    let both = both_parts (reverse ys) (reverse xs) none in
    ap (prefix_len is_within) (reverse-append xs ys) ∙ omega (arith, whole, both)

suffix_same : (xs ys : List ℕ) → 0 < count_by is_end ys → suffix_len is_within (xs ++ ys) ≡ suffix_len is_within ys
suffix_same xs ys h =
    let some = counted_back ys in
    ap (prefix_len is_within) (reverse-append xs ys) ∙ first_part (reverse ys) (reverse xs) (omega (arith, some, h))

-- ---- a text in a file

module _ (file : List ℕ) (first size at : ℕ) (inside : first ≤ length file) (within : at ≤ size) where
  abbrev text : List ℕ
  text = take size (drop first file)

  taken_twice : (n m : ℕ) (xs : List ℕ) → m ≤ n → take m (take n xs) ≡ take m xs
  taken_twice n zero xs h = refl
  taken_twice zero (suc m) xs h = absurd (omega (arith, h))
  taken_twice (suc n) (suc m) [] h = refl
  taken_twice (suc n) (suc m) (x ∷ xs) h = ap (λ z. x ∷ z) (taken_twice n m xs (omega (arith, h)))

  taken_on : (n m : ℕ) (xs : List ℕ) → n ≤ length xs → take (n + m) xs ≡ take n xs ++ take m (drop n xs)
  taken_on zero m xs h = ap (λ k. take k xs) (omega arith)
  taken_on (suc n) m [] h = absurd (omega (arith, h))
  taken_on (suc n) m (x ∷ xs) h = let plus : suc n + m ≡ suc (n + m) = omega arith in ap (λ k. take k (x ∷ xs)) plus ∙ ap (λ z. x ∷ z) (taken_on n m xs (omega (arith, h)))

  parted : take (first + at) file ≡ take first file ++ take at text
  parted = taken_on first at file inside ∙ ap (λ z. take first file ++ z) (sym (taken_twice size at (drop first file) within))

  pub lines_on : line_at file (first + at) + 1 ≡ line_at file first + line_at text at
  lines_on = let whole = ap (count_by is_end) parted ∙ counted_parts (take first file) (take at text) in omega (arith, whole)

  pub columns_on : line_at text at ≡ 1 → column_at file (first + at) + 1 ≡ column_at file first + column_at text at
  columns_on h =
      let none : count_by is_end (take at text) ≡ 0 = omega (arith, h) in
      let whole = ap (suffix_len is_within) parted ∙ suffix_on (take first file) (take at text) none in
      omega (arith, whole)

  pub columns_same : 1 < line_at text at → column_at file (first + at) ≡ column_at text at
  columns_same h =
      let some : 0 < count_by is_end (take at text) = omega (arith, h) in
      ap (λ n. n + 1) (ap (suffix_len is_within) parted ∙ suffix_same (take first file) (take at text) some)

pub lines_go_on : LinesGoOn
lines_go_on file first size at inside within = lines_on file first size at inside within

pub columns_go_on : ColumnsGoOn
columns_go_on file first size at inside within h = columns_on file first size at inside within h

pub columns_are_the_same : ColumnsAreTheSame
columns_are_the_same file first size at inside within h = columns_same file first size at inside within h
