-- Paths with an included theory in front.
use Rattle.std.proofs.Common.{◌≡◌, ◌-◌, ◌≤◌, take, Bool, cond, [], ◌∷◌, drop, length, get_or, None, refl, sym, ap, ◌∙◌, arith}
use Rattle.std.proofs.Math.Seq.{take-length}
use Rattle.name_meaning.specs.Names.{Name, Path}
use Rattle.library_meaning.specs.Closure.{sees}
use Rattle.library_meaning.specs.Faces.{own_part}
use Rattle.library_meaning.specs.Resolution.{Scope, own_at, qualified, qualified_in}

-- What stands behind the first name of a path.
pub behind_first : (path : Path) → take (length path - 1) (drop 1 path) ≡ drop 1 path
behind_first [] = refl
behind_first (first ∷ rest) =
    let counted : length (first ∷ rest) - 1 ≡ length rest = omega arith in
    ap (λ n. take n rest) counted ∙ take-length rest

module _ (scope : Scope) where
  pub front_read : (path : Path) (theory : Name) → 1 ≤ length path → theory ≡ get_or path 0 theory → qualified scope path ≡ qualified_in scope theory (drop 1 path)
  front_read [] theory h e = absurd (omega (arith, h))
  front_read (first ∷ rest) theory h e = ap (λ n. qualified_in scope n rest) (sym e)

  -- the theory is included, or it is not
  pub if_seen : (theory : Name) (rest : Path) (b : Bool) → b ≡ sees scope.includes theory → qualified_in scope theory rest ≡ cond b (own_at (own_part scope.environment theory) rest) None
  if_seen theory rest b h = ap (λ c. cond c (own_at (own_part scope.environment theory) rest) None) (sym h)
