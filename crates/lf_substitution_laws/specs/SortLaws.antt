-- Substitution and raising keep sorts, and meet no misfit in well-sorted terms. The simple types of
-- the constants and the simple contexts before and behind the variable are any.
use Rattle.std.specs.Prelude.{◌≡◌, ℕ, ◌≤◌, ◌∷◌, ◌++◌, length, map}
use Rattle.lf_meaning.specs.Terms.{Constant, Object, Family, Kind, Simple, SimpleContext}
use Rattle.lf_meaning.specs.Raising.{raise, raise_family, raise_kind}
use Rattle.lf_meaning.specs.Replacement.{Headed, replace_constants}
use Rattle.lf_meaning.specs.Substitution.{substitute, substitute_family, substitute_kind}
use Rattle.lf_meaning.specs.Sorts.{Sorts, HasSort, IsSortedFamily, IsSortedKind}
use Rattle.lf_meaning.specs.Misfits.{NoMisfit, NoMisfitInFamily}
use Rattle.lf_substitution_laws.specs.Uniform.{rename_bases, IsSortedMap}

abbrev pub SubstitutionKeepsSorts : Type 0
SubstitutionKeepsSorts = (sorts : Sorts) (after before : SimpleContext) (v m : Object) (s t : Simple) → HasSort sorts before v s → HasSort sorts (after ++ (s ∷ before)) m t → HasSort sorts (after ++ before) (substitute v s (length after) m) t

abbrev pub SubstitutionKeepsSortedFamilies : Type 0
SubstitutionKeepsSortedFamilies = (sorts : Sorts) (after before : SimpleContext) (v : Object) (s : Simple) (a : Family) → HasSort sorts before v s → IsSortedFamily sorts (after ++ (s ∷ before)) a → IsSortedFamily sorts (after ++ before) (substitute_family v s (length after) a)

abbrev pub SubstitutionKeepsSortedKinds : Type 0
SubstitutionKeepsSortedKinds = (sorts : Sorts) (after before : SimpleContext) (v : Object) (s : Simple) (k : Kind) → HasSort sorts before v s → IsSortedKind sorts (after ++ (s ∷ before)) k → IsSortedKind sorts (after ++ before) (substitute_kind v s (length after) k)

-- No step of a substitution of a value of its sort into a well-sorted term meets a misfit.
abbrev pub SubstitutionMeetsNoMisfit : Type 0
SubstitutionMeetsNoMisfit = (sorts : Sorts) (after before : SimpleContext) (v m : Object) (s t : Simple) → HasSort sorts before v s → HasSort sorts (after ++ (s ∷ before)) m t → NoMisfit v s (length after) m

abbrev pub SubstitutionMeetsNoMisfitInFamilies : Type 0
SubstitutionMeetsNoMisfitInFamilies = (sorts : Sorts) (after before : SimpleContext) (v : Object) (s : Simple) (a : Family) → HasSort sorts before v s → IsSortedFamily sorts (after ++ (s ∷ before)) a → NoMisfitInFamily v s (length after) a

abbrev pub RaisingKeepsSorts : Type 0
RaisingKeepsSorts = (sorts : Sorts) (after between before : SimpleContext) (m : Object) (t : Simple) → HasSort sorts (after ++ before) m t → HasSort sorts (after ++ (between ++ before)) (raise (length between) (length after) m) t

abbrev pub RaisingKeepsSortedFamilies : Type 0
RaisingKeepsSortedFamilies = (sorts : Sorts) (after between before : SimpleContext) (a : Family) → IsSortedFamily sorts (after ++ before) a → IsSortedFamily sorts (after ++ (between ++ before)) (raise_family (length between) (length after) a)

abbrev pub RaisingKeepsSortedKinds : Type 0
RaisingKeepsSortedKinds = (sorts : Sorts) (after between before : SimpleContext) (k : Kind) → IsSortedKind sorts (after ++ before) k → IsSortedKind sorts (after ++ (between ++ before)) (raise_kind (length between) (length after) k)

-- What has a sort in a simple context is not changed by raising from behind it.
abbrev pub RaisingPastDoesNothing : Type 0
RaisingPastDoesNothing = (sorts : Sorts) (k n : ℕ) (context : SimpleContext) (m : Object) (t : Simple) → length context ≤ n → HasSort sorts context m t → raise k n m ≡ m

-- The replacement of constants keeps sorts, with other names for the bases.
abbrev pub ConstantsKeepSorts : Type 0
ConstantsKeepSorts = (by : Constant → Headed) (bases : Constant → Constant) (sorts sorts' : Sorts) → IsSortedMap by bases sorts sorts' → (context : SimpleContext) (m : Object) (t : Simple) → HasSort sorts context m t → HasSort sorts' (map (rename_bases bases) context) (replace_constants by m) (rename_bases bases t)
