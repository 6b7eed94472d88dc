-- The variables that stand around an expression (Harper and Licata 2007, section 2: contexts; that a binder may have no name
-- is this profile).
use Rattle.std.specs.Prelude.{ℕ, suc, List, ◌∷◌, Option, map, slice_get, option_map}
use Rattle.name_meaning.specs.Names.{Name}
use Rattle.library_meaning.specs.Below.Terms.{Family, Context}
use Rattle.library_meaning.specs.Below.Raising.{raise_family}
use Rattle.library_meaning.specs.Resolution.{Variables}

-- The name of a binder, if it has one, and the family of its variable.
pub record Local : Type 0 where
  pub name : Option Name
  pub family : Family

-- The innermost one first.
abbrev pub Locals : Type 0
Locals = List Local

-- The variables with one more, innermost.
abbrev pub with_local : Option Name → Family → Locals → Locals
with_local name family locals = record { name = name; family = family } ∷ locals

-- The names of the variables.
abbrev pub variables_of : Locals → Variables
variables_of locals = map (λ (own : Local). own.name) locals

-- The families of the variables.
abbrev pub context_of : Locals → Context
context_of locals = map (λ (own : Local). own.family) locals

-- The family of a variable, raised to where it stands.
abbrev pub family_at : Locals → ℕ → Option Family
family_at locals index = option_map (λ (own : Local). raise_family (suc index) 0 own.family) (slice_get locals index)
