-- Lists of words of a length that no accepted list has.
use Rattle.std.proofs.Common.{◌≡◌, ◌≢◌, ℕ, List, [], ◌∷◌, length, map, refl, arith}
use Rattle.std.specs.Prelude.{None}
use Rattle.command_words_meaning.specs.WordLists.{generate_of, run_of}

pub other_count_generate_none : {A : Type 0} (bytes : A → List ℕ) (words : List A) → length words ≢ 3 → generate_of (map bytes words) ≡ None
other_count_generate_none bytes [] l = refl
other_count_generate_none bytes (word ∷ []) l = refl
other_count_generate_none bytes (word ∷ second ∷ []) l = refl
other_count_generate_none bytes (word ∷ second ∷ third ∷ []) l = absurd (l refl)
other_count_generate_none bytes (word ∷ second ∷ third ∷ fourth ∷ words) l = refl

pub none_run : {A : Type 0} (bytes : A → List ℕ) (words : List A) → length words ≡ 0 → run_of (map bytes words) ≡ None
unfolding run_of
none_run bytes [] l = refl
none_run bytes (word ∷ words) l = absurd (omega arith)
