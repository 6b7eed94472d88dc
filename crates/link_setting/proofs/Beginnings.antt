-- Beginnings of a path, from the shortest on.
use Rattle.std.proofs.Common.{◌≡◌, ℕ, zero, suc, ◌≤◌, Bool, true, false, ◌&&◌, ◌||◌, [], ◌∷◌, length, take, refl, ap, ◌∙◌, arith}
use lib.Pointwise.{pointwise}
use Rattle.name_meaning.specs.Names.{Name, Path, same_name}
use Rattle.std.specs.Prelude.{nat_eq}
use Rattle.std.proofs.lemmas.Bool.{eq-eqb}
use Rattle.term_trees.proofs.Below.Equality.{pointwise_itself}
use Rattle.link_meaning.specs.Assignments.{is_beginning}

-- The other is a beginning of the path, of less than so many names.
abbrev pub begins_before : ℕ → Path → Path → Bool
begins_before zero path other = false
begins_before (suc count) path [] = true
begins_before (suc count) [] (name ∷ other) = false
begins_before (suc count) (first ∷ path) (name ∷ other) = same_name name first && begins_before count path other

-- The next longer one.
pub begins_next : (count : ℕ) (path other : Path) → count ≤ length path
    → begins_before (suc count) path other ≡ (begins_before count path other || pointwise same_name other (take count path))
begins_next zero path [] within = refl
begins_next zero [] (name ∷ other) within = refl
begins_next zero (first ∷ path) (name ∷ other) within = by (same_name name first)
  where
    by : (b : Bool) → (b && false) ≡ false
    by true = refl
    by false = refl
begins_next (suc count) path [] within = refl
begins_next (suc count) [] (name ∷ other) within = absurd (omega (arith, within))
begins_next (suc count) (first ∷ path) (name ∷ other) within =
    ap (λ b. same_name name first && b) (begins_next count path other (omega (arith, within)))
    ∙ by (same_name name first) (begins_before count path other) (pointwise same_name other (take count path))
  where
    by : (a b c : Bool) → (a && (b || c)) ≡ ((a && b) || (a && c))
    by true b c = refl
    by false b c = refl

-- So many names of a path are a beginning of it.
pub begins_itself : (count : ℕ) (path : Path) → is_beginning (take count path) path ≡ true
unfolding is_beginning
begins_itself zero path = refl
begins_itself (suc count) [] = refl
begins_itself (suc count) (name ∷ path) = ap (λ b. b && is_beginning (take count path) path) (itself name) ∙ begins_itself count path
  where
    itself : (n : Name) → same_name n n ≡ true
    itself n = pointwise_itself nat_eq (λ i. eq-eqb i i refl) n
