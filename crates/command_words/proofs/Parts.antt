-- The worker part of the words, and the words without it.
use Rattle.std.proofs.Common.{◌≡◌, ℕ, zero, suc, ◌-◌, false, List, [], ◌∷◌, length, take, drop, map, min, refl, sym, ap, ◌∙◌, arith}
use Rattle.std.proofs.Math.Seq.{drop-nil}
use native.Mathlib.Numerals.{unary_clauses}
use Rattle.std.specs.Prelude.{None, codes}
use Rattle.std.specs.Str.Pattern.{FindsTextPrefix}
use Rattle.std.proofs.lemmas.List.{take-map, drop-map, take_min, length-map}
use Rattle.std.proofs.lemmas.Str.Pattern.{starts_text}
use Rattle.command_words_meaning.specs.WordLists.{worker_part, with_part, part_in_front, part_at_end}

-- a word that does not begin with `--workers=` is no worker part
pub other_word_no_part : (word : List ℕ) → FindsTextPrefix (codes "--workers=") word None → worker_part (word ∷ []) ≡ None
other_word_no_part word h = rw (sym (starts_text false (codes "--workers=") word h)) refl

drop_least : {A : Type 0} (count : ℕ) (words : List A) → drop (min count (length words)) words ≡ drop count words
drop_least count [] = drop-nil (min count 0) ∙ sym (drop-nil count)
drop_least zero (word ∷ words) = simp unary_clauses refl
drop_least (suc count) (word ∷ words) = simp unary_clauses (drop_least count words)

-- the words of a part in front, and those behind it
pub front_parted : {A : Type 0} (bytes : A → List ℕ) (word : List ℕ) (words part rest : List A) (count at : ℕ)
    → at ≡ min count (length words) → part ≡ take at words → rest ≡ drop at words
    → with_part word (map bytes rest) (map bytes part) ≡ part_in_front word (map bytes words) count
front_parted bytes word words part rest count at a p r =
    let front : map bytes part ≡ take count (map bytes words) =
    ap (map bytes) (p ∙ ap (λ n. take n words) a ∙ take_min count words) ∙ sym (take-map bytes count words) in
    let behind : map bytes rest ≡ drop count (map bytes words) =
    ap (map bytes) (r ∙ ap (λ n. drop n words) a ∙ drop_least count words) ∙ sym (drop-map bytes count words) in
    λ i. with_part word (behind i) (front i)

-- the words of a part at the end, and those in front of it
pub end_parted : {A : Type 0} (bytes : A → List ℕ) (word : List ℕ) (words part rest : List A) (count at : ℕ)
    → at ≡ length words - count → rest ≡ take at words → part ≡ drop at words
    → with_part word (map bytes rest) (map bytes part) ≡ part_at_end word (map bytes words) count
end_parted bytes word words part rest count at a r p =
    let same : length (map bytes words) - count ≡ at = omega (arith, a, length-map words bytes) in
    let front : map bytes rest ≡ take (length (map bytes words) - count) (map bytes words) = ap (map bytes) r ∙ sym (take-map bytes at words) ∙ ap (λ n. take n (map bytes words)) (sym same) in
    let behind : map bytes part ≡ drop (length (map bytes words) - count) (map bytes words) = ap (map bytes) p ∙ sym (drop-map bytes at words) ∙ ap (λ n. drop n (map bytes words)) (sym same) in
    λ i. with_part word (front i) (behind i)
