-- Replacements that pass through raising and substitution.
use Rattle.lf_meaning.specs.Replacement.{Headed, Kept, Replaced, raise_headed, Replacement}
use Rattle.std.specs.Prelude.{◌≡◌, ℕ, ◌+◌, ◌<◌, ◌≤◌, [], Some}
use Rattle.lf_meaning.specs.Terms.{Constant, Var, Simple, Base, Arrow, SimpleContext}
use Rattle.lf_meaning.specs.Raising.{raised}
use Rattle.lf_meaning.specs.Substitution.{action}
use Rattle.lf_meaning.specs.Sorts.{Sorts, HasSort, SynthesisesSort}

-- A value that stands in place of a head does with its arguments what some simple type says.
abbrev pub HasType : Headed → Type 0
HasType (Kept r) = Unit {0}
HasType (Replaced v a) = (t : Simple) × (a ≡ action t)

-- A replacement is uniform where the variables of its own binders stay, what stands in place of
-- another variable is raised with the number of binders passed, and what stands in place of a
-- constant has no free variable.
pub record IsUniform (by : Replacement) : Type 0 where
  pub variable_typed : (n i : ℕ) → HasType (by.variable n i)
  pub constant_typed : (c : Constant) → HasType (by.constant c)
  pub below_depth : (n i : ℕ) → i < n → by.variable n i ≡ Kept (Var i)
  pub deeper : (k n p q i : ℕ) → p ≤ n → q ≡ n + k → raise_headed k p (by.variable n i) ≡ by.variable q (raised k p i)
  pub closed : (k p : ℕ) (c : Constant) → raise_headed k p (by.constant c) ≡ by.constant c

-- A headed result has a sort: a kept head synthesises it; a value has it, and does with its
-- arguments what it says.
abbrev pub HeadedHasSort : Sorts → SimpleContext → Headed → Simple → Type 0
HeadedHasSort sorts context (Kept r) t = SynthesisesSort sorts context r t
HeadedHasSort sorts context (Replaced v a) t = (a ≡ action t) × HasSort sorts context v t

-- A simple type with other names for its bases.
abbrev pub rename_bases : (Constant → Constant) → Simple → Simple
rename_bases bases (Base c) = Base (bases c)
rename_bases bases (Arrow s t) = Arrow (rename_bases bases s) (rename_bases bases t)

-- What stands in place of each constant has no free variable, and its sort: that of the constant
-- with other names for bases.
pub record IsSortedMap (by : Constant → Headed) (bases : Constant → Constant) (sorts sorts' : Sorts) : Type 0 where
  pub typed : (c : Constant) → HasType (by c)
  pub closed : (k p : ℕ) (c : Constant) → raise_headed k p (by c) ≡ by c
  pub has_sort : (c : Constant) (t : Simple) → sorts c ≡ Some t → HeadedHasSort sorts' [] (by c) (rename_bases bases t)
