-- Bytes that are cut at a byte that is in no part are cut in one way.
use Rattle.std.proofs.Common.{◌≡◌, ℕ, true, not, ◌==◌, List, [], ◌∷◌, ◌++◌, refl, sym, ap, subst, ◌∙◌, true≢false, eq-eqb}
use Rattle.std.specs.List.{list_all}
use Rattle.std.proofs.lemmas.Bool.{and_parts}
use Rattle.certificate_meaning.specs.Texts.{Word, words_text}

-- the byte is not among these
abbrev pub IsFree : ℕ → List ℕ → Type 0
IsFree byte bytes = list_all (λ b. not (b == byte)) bytes ≡ true

first_free : (byte b : ℕ) (bytes : List ℕ) → IsFree byte (b ∷ bytes) → b ≡ byte → ⊥
first_free byte b bytes f e = true≢false (sym (and_parts (not (b == byte)) (list_all (λ c. not (c == byte)) bytes) f).0 ∙ ap not (eq-eqb b byte e))

rest_free : (byte b : ℕ) (bytes : List ℕ) → IsFree byte (b ∷ bytes) → IsFree byte bytes
rest_free byte b bytes f = (and_parts (not (b == byte)) (list_all (λ c. not (c == byte)) bytes) f).1

first_same : {x y : ℕ} {xs ys : List ℕ} → x ∷ xs ≡ y ∷ ys → x ≡ y
first_same e = cc

pub rest_same : {x y : ℕ} {xs ys : List ℕ} → x ∷ xs ≡ y ∷ ys → xs ≡ ys
rest_same e = cc

-- a byte that is in the middle is not free
pub not_free : (byte : ℕ) (front rest : List ℕ) → IsFree byte (front ++ byte ∷ rest) → ⊥
not_free byte [] rest f = first_free byte byte rest f refl
not_free byte (b ∷ front) rest f = not_free byte front rest (rest_free byte b (front ++ byte ∷ rest) f)

-- the first cut
pub first_cut : (byte : ℕ) (front other rest more : List ℕ) → IsFree byte front → IsFree byte other → front ++ byte ∷ rest ≡ other ++ byte ∷ more → (front ≡ other) × (rest ≡ more)
first_cut byte [] [] rest more f g e = (refl, rest_same e)
first_cut byte [] (b ∷ other) rest more f g e = absurd (first_free byte b other g (sym (first_same e)))
first_cut byte (b ∷ front) [] rest more f g e = absurd (first_free byte b front f (first_same e))
first_cut byte (b ∷ front) (c ∷ other) rest more f g e =
    let same = first_cut byte front other rest more (rest_free byte b front f) (rest_free byte c other g) (rest_same e) in
    (ap (λ d. d ∷ front) (first_same e) ∙ ap (λ l. c ∷ l) same.0, same.1)

-- the last cut
pub last_cut : (byte : ℕ) (front other rest more : List ℕ) → IsFree byte rest → IsFree byte more → front ++ byte ∷ rest ≡ other ++ byte ∷ more → (front ≡ other) × (rest ≡ more)
last_cut byte [] [] rest more f g e = (refl, rest_same e)
last_cut byte [] (c ∷ other) rest more f g e = absurd (not_free byte other more (subst (IsFree byte) (rest_same e) f))
last_cut byte (b ∷ front) [] rest more f g e = absurd (not_free byte front rest (subst (IsFree byte) (sym (rest_same e)) g))
last_cut byte (b ∷ front) (c ∷ other) rest more f g e =
    let same = last_cut byte front other rest more f g (rest_same e) in
    (ap (λ d. d ∷ front) (first_same e) ∙ ap (λ l. c ∷ l) same.0, same.1)

-- each of the words is free of the byte
abbrev pub AreFree : ℕ → List Word → Type 0
AreFree byte words = list_all (λ word. list_all (λ b. not (b == byte)) word) words ≡ true

first_of : (byte : ℕ) (word : Word) (words : List Word) → AreFree byte (word ∷ words) → IsFree byte word
first_of byte word words f = (and_parts (list_all (λ b. not (b == byte)) word) (list_all (λ w. list_all (λ b. not (b == byte)) w) words) f).0

others_of : (byte : ℕ) (word : Word) (words : List Word) → AreFree byte (word ∷ words) → AreFree byte words
others_of byte word words f = (and_parts (list_all (λ b. not (b == byte)) word) (list_all (λ w. list_all (λ b. not (b == byte)) w) words) f).1

-- words without spaces are told by their text, where there is at least one
pub one_row : (word other : Word) (words others : List Word) → AreFree 32 (word ∷ words) → AreFree 32 (other ∷ others) → words_text (word ∷ words) ≡ words_text (other ∷ others) → word ∷ words ≡ other ∷ others
one_row word other [] [] f g e = ap (λ w. w ∷ []) e
one_row word other [] (second ∷ others) f g e = absurd (not_free 32 other (words_text (second ∷ others)) (subst (IsFree 32) e (first_of 32 word [] f)))
one_row word other (second ∷ words) [] f g e = absurd (not_free 32 word (words_text (second ∷ words)) (subst (IsFree 32) (sym e) (first_of 32 other [] g)))
one_row word other (second ∷ words) (third ∷ others) f g e =
    let cut = first_cut 32 word other (words_text (second ∷ words)) (words_text (third ∷ others)) (first_of 32 word (second ∷ words) f) (first_of 32 other (third ∷ others) g) e in
    let rest = one_row second third words others (others_of 32 word (second ∷ words) f) (others_of 32 other (third ∷ others) g) cut.1 in
    ap (λ w. w ∷ second ∷ words) cut.0 ∙ ap (λ l. other ∷ l) rest
