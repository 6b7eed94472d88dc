-- Substitutions commute. `outer` has the sort t in D, `inner` the sort u in between ++ x ∷ D, and
-- the term stands in after ++ y ∷ between ++ x ∷ D, with x of sort t and y of sort u: substituting
-- `inner` for y and then `outer` for x is substituting `outer` for x and then the substituted
-- `inner` for y.
use Rattle.std.specs.Prelude.{◌≡◌, ℕ, suc, ◌+◌, ◌∷◌, ◌++◌, length}
use Rattle.lf_meaning.specs.Terms.{Constant, Object, Family, Kind, Simple, SimpleContext}
use Rattle.lf_meaning.specs.Raising.{raise}
use Rattle.lf_meaning.specs.Replacement.{Headed, replace_constants}
use Rattle.lf_meaning.specs.Substitution.{substitute, substitute_family, substitute_kind}
use Rattle.lf_meaning.specs.Sorts.{Sorts, HasSort, IsSortedFamily, IsSortedKind}
use Rattle.lf_substitution_laws.specs.Uniform.{rename_bases, IsSortedMap}

abbrev pub SubstitutionsCommute : Type 0
SubstitutionsCommute = (sorts : Sorts) (after between before : SimpleContext) (outer inner into : Object) (t u s : Simple) → HasSort sorts before outer t → HasSort sorts (between ++ (t ∷ before)) inner u → HasSort sorts (after ++ (u ∷ (between ++ (t ∷ before)))) into s → substitute outer t (length between + length after) (substitute inner u (length after) into) ≡ substitute (substitute outer t (length between) inner) u (length after) (substitute outer t (suc (length between + length after)) into)

abbrev pub SubstitutionsCommuteInFamilies : Type 0
SubstitutionsCommuteInFamilies = (sorts : Sorts) (after between before : SimpleContext) (outer inner : Object) (into : Family) (t u : Simple) → HasSort sorts before outer t → HasSort sorts (between ++ (t ∷ before)) inner u → IsSortedFamily sorts (after ++ (u ∷ (between ++ (t ∷ before)))) into → substitute_family outer t (length between + length after) (substitute_family inner u (length after) into) ≡ substitute_family (substitute outer t (length between) inner) u (length after) (substitute_family outer t (suc (length between + length after)) into)

abbrev pub SubstitutionsCommuteInKinds : Type 0
SubstitutionsCommuteInKinds = (sorts : Sorts) (after between before : SimpleContext) (outer inner : Object) (into : Kind) (t u : Simple) → HasSort sorts before outer t → HasSort sorts (between ++ (t ∷ before)) inner u → IsSortedKind sorts (after ++ (u ∷ (between ++ (t ∷ before)))) into → substitute_kind outer t (length between + length after) (substitute_kind inner u (length after) into) ≡ substitute_kind (substitute outer t (length between) inner) u (length after) (substitute_kind outer t (suc (length between + length after)) into)

-- The same for the two innermost variables.
abbrev pub InnermostSubstitutionsCommute : Type 0
InnermostSubstitutionsCommute = (sorts : Sorts) (context : SimpleContext) (outer inner into : Object) (t u s : Simple) → HasSort sorts context outer t → HasSort sorts (t ∷ context) inner u → HasSort sorts (u ∷ t ∷ context) into s → substitute outer t 0 (substitute inner u 0 into) ≡ substitute (substitute outer t 0 inner) u 0 (substitute outer t 1 into)

-- The replacement of constants commutes with raising and with substitution.
abbrev pub ConstantsCommuteWithRaising : Type 0
ConstantsCommuteWithRaising = (by : Constant → Headed) (bases : Constant → Constant) (sorts sorts' : Sorts) → IsSortedMap by bases sorts sorts' → (k n : ℕ) (m : Object) → raise k n (replace_constants by m) ≡ replace_constants by (raise k n m)

abbrev pub ConstantsCommuteWithSubstitution : Type 0
ConstantsCommuteWithSubstitution = (by : Constant → Headed) (bases : Constant → Constant) (sorts sorts' : Sorts) → IsSortedMap by bases sorts sorts' → (after before : SimpleContext) (v m : Object) (u t : Simple) → HasSort sorts before v u → HasSort sorts (after ++ (u ∷ before)) m t → replace_constants by (substitute v u (length after) m) ≡ substitute (replace_constants by v) (rename_bases bases u) (length after) (replace_constants by m)
