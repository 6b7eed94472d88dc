-- Which assignment reaches a constant: beginnings and rests of paths.
use Rattle.std.proofs.Common.{◌≡◌, ◌≢◌, ◌-◌, ◌<◌, ◌≤◌, Bool, true, false, List, [], ◌∷◌, ◌++◌, take, drop, length, get_or, Option, Some, None, ◌&&◌, refl, sym, ap, ◌∙◌, arith}
use Rattle.std.proofs.lemmas.List.{take_all}
use lib.Pointwise.{pointwise}
use Rattle.name_meaning.specs.Names.{Name, Path, same_name}
use Rattle.name_laws.proofs.Order.{same_itself, same_sound}
use Rattle.name_laws.proofs.Contained.{same_other_way}
use Rattle.link_meaning.specs.Assignments.{Assigned, Covering, Sharing, Giving, is_beginning}
use Rattle.link_meaning.specs.Passes.{rest_behind, reached_by, equal_paths}
use Rattle.link_passes.specs.Reaching.{reached_through}

-- Two paths are equal where each is a beginning of the other.
pub equal_as_names : (path other : Path) → equal_paths path other ≡ pointwise same_name path other
unfolding is_beginning
equal_as_names [] [] = refl
equal_as_names [] (name ∷ other) = refl
equal_as_names (name ∷ path) [] = refl
equal_as_names (name ∷ path) (next ∷ other) = by (same_name name next) (same_name next name) (same_other_way name next) (equal_as_names path other)
  where
    by : (b c : Bool) → b ≡ c → equal_paths path other ≡ pointwise same_name path other
        → elim (b && is_beginning path other) [
          | true ↦ c && is_beginning other path
          | false ↦ false
        ]
        ≡ (b && pointwise same_name path other)
    by true true e h = h
    by true false e h = absurd (cc)
    by false c e h = refl

-- A path that is not empty.
abbrev pub unless_empty : Path → Option Path
unless_empty [] = None
unless_empty (name ∷ path) = Some (name ∷ path)

pub rest_there : (beginning rest : Path) → rest_behind beginning (beginning ++ rest) ≡ unless_empty rest
unfolding rest_behind
rest_there [] [] = refl
rest_there [] (name ∷ rest) = refl
rest_there (name ∷ beginning) rest = ap (λ b. elim b [
  | true ↦ rest_behind beginning (beginning ++ rest)
  | false ↦ None
]) (same_itself name) ∙ rest_there beginning rest

pub none_behind : (beginning path : Path) → ((rest : Path) → path ≢ beginning ++ rest) → rest_behind beginning path ≡ None
unfolding rest_behind
none_behind [] path h = absurd (h path refl)
none_behind (name ∷ beginning) [] h = refl
none_behind (name ∷ beginning) (other ∷ path) h =
    by (same_name name other) refl (λ e. none_behind beginning path (λ rest p. h rest (ap (λ n. n ∷ path) (sym (same_sound name other e)) ∙ ap (λ ns. name ∷ ns) p)))
  where
    by : (b : Bool) → same_name name other ≡ b → (same_name name other ≡ true → rest_behind beginning path ≡ None) → ◌≡◌ {A = Option Path} (elim b [
      | true ↦ rest_behind beginning path
      | false ↦ None
    ]) None
    by true e f = f e
    by false e f = refl

-- What is behind a beginning, in its parts.
pub rest_read : (beginning path rest : Path) (first : Name) → path ≡ beginning ++ rest → 1 ≤ length rest → first ≡ get_or rest 0 first
    → Some (first ∷ take (length rest - 1) (drop 1 rest)) ≡ rest_behind beginning path
rest_read beginning path [] first e within here = absurd (omega (arith, within))
rest_read beginning path (name ∷ rest) first e within here =
    ap Some (ap (λ n. n ∷ take (length (name ∷ rest) - 1) rest) here ∙ ap (λ names. name ∷ names) (take_all (length (name ∷ rest) - 1) rest (omega arith)))
    ∙ sym (ap (rest_behind beginning) e ∙ rest_there beginning (name ∷ rest))

pub rest_empty : (beginning path rest : Path) → path ≡ beginning ++ rest → length rest < 1 → None ≡ rest_behind beginning path
rest_empty beginning path [] e below = sym (ap (rest_behind beginning) e ∙ rest_there beginning [])
rest_empty beginning path (name ∷ rest) e below = absurd (omega (arith, below))

-- One assignment after the other.
pub reached_next : (first : Assigned) (assigned : List Assigned) (path : Path) → reached_by (first ∷ assigned) path ≡ reached_through first path (reached_by assigned path)
unfolding reached_by
reached_next (Covering first by) assigned path = refl
reached_next (Sharing target structure first by) assigned path = refl
reached_next (Giving target value) assigned path = refl
