-- The names of a path, one after another.
use Rattle.std.specs.Prelude.{slice_index_or, length}
use Rattle.std.proofs.Common.{◌≡◌, ℕ, ◌+◌, ◌<◌, List, [], ◌∷◌, ◌++◌, take, append_assoc, refl, sym, ap, ◌∙◌, arith}
use Rattle.std.proofs.lemmas.List.{append-nil, take_more}
use Rattle.name_meaning.specs.Names.{Path}
use Rattle.text_meaning.specs.Tokens.{dotted}
use Rattle.printing_meaning.specs.Constants.{path_text}

-- a path that is not empty is its first name, and the others, each behind a dot
pub path_is : (name : List ℕ) (others : Path) → path_text (name ∷ others) ≡ name ++ dotted others
unfolding path_text
path_is name [] = sym (append-nil name)
path_is name (second ∷ others) = ap (λ rest. (name ++ (46 ∷ [])) ++ rest) (path_is second others) ∙ append_assoc name (46 ∷ []) (second ++ dotted others)

pub no_names : (names : Path) → length names ≡ 0 → path_text names ≡ []
unfolding path_text
no_names [] h = refl
no_names (name ∷ names) h = absurd (omega (arith, h))

dotted_last : (names : Path) (name : List ℕ) → dotted (names ++ name ∷ []) ≡ dotted names ++ 46 ∷ name
dotted_last [] name = ap (λ t. 46 ∷ t) (append-nil name)
dotted_last (x ∷ names) name = ap (λ t. 46 ∷ (x ++ t)) (dotted_last names name) ∙ ap (λ t. 46 ∷ t) (sym (append_assoc x (dotted names) (46 ∷ name)))

pub dotted_next : (names : Path) (i : ℕ) (name : List ℕ) → name ≡ slice_index_or names i name → i < length names → dotted (take (i + 1) names) ≡ dotted (take i names) ++ 46 ∷ name
dotted_next names i name e h = ap dotted (take_more names i name h ∙ ap (λ z. take i names ++ (z ∷ [])) (sym e)) ∙ dotted_last (take i names) name
