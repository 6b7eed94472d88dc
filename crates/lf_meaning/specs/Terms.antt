-- The terms of Canonical LF, with one argument for each application (Harper and Licata 2007,
-- section 2).
use Rattle.name_meaning.specs.Names.{Path, Name}
use Rattle.std.specs.Prelude.{ℕ, suc, List, [], ◌∷◌}

-- A constant is a path in a theory (this profile).
pub record Constant : Type 0 where
  pub theory : Name
  pub path : Path

-- An object is a λ or an atomic object. An atomic object is a variable, a constant, or an atomic
-- object applied to one object. A variable is the number of binders between it and its own.
mutual
  pub data Object : Type 0 where
    Lam : (body : Object) → Object
    At : (atomic : Atomic) → Object

  pub data Atomic : Type 0 where
    Var : (index : ℕ) → Atomic
    Con : (constant : Constant) → Atomic
    App : (head : Atomic) (argument : Object) → Atomic

-- A family is a Π or an atomic family. An atomic family is a constant, or an atomic family applied to
-- one object.
mutual
  pub data Family : Type 0 where
    Pi : (domain body : Family) → Family
    AtFamily : (atomic : AtomicFamily) → Family

  pub data AtomicFamily : Type 0 where
    FamilyCon : (constant : Constant) → AtomicFamily
    FamilyApp : (head : AtomicFamily) (argument : Object) → AtomicFamily

-- A kind is `type` or a Π from a family to a kind.
pub data Kind : Type 0 where
  Ty : Kind
  PiKind : (domain : Family) (body : Kind) → Kind

-- A simple type is a base, named by a family constant, or an arrow.
pub data Simple : Type 0 where
  Base : (constant : Constant) → Simple
  Arrow : (domain codomain : Simple) → Simple

-- The families of the variables, the innermost first: variable i has the family at place i. The
-- family at place i stands in the context of those behind it.
abbrev pub Context : Type 0
Context = List Family

-- The simple types of the variables, the innermost first.
abbrev pub SimpleContext : Type 0
SimpleContext = List Simple

-- The atomic object applied to the arguments, from left to right.
abbrev pub apply_all : Atomic → List Object → Atomic
apply_all r [] = r
apply_all r (m ∷ ms) = apply_all (App r m) ms

-- The atomic family applied to the arguments, from left to right.
abbrev pub family_apply_all : AtomicFamily → List Object → AtomicFamily
family_apply_all p [] = p
family_apply_all p (m ∷ ms) = family_apply_all (FamilyApp p m) ms

-- How many arguments the atomic object has.
abbrev pub argument_count : Atomic → ℕ
argument_count (Var i) = 0
argument_count (Con c) = 0
argument_count (App r m) = suc (argument_count r)

-- How many arguments the atomic family has.
abbrev pub family_argument_count : AtomicFamily → ℕ
family_argument_count (FamilyCon c) = 0
family_argument_count (FamilyApp p m) = suc (family_argument_count p)

-- The families of a kind's domains, the innermost first, before those of the context.
abbrev pub with_domains : Kind → Context → Context
with_domains Ty context = context
with_domains (PiKind a k) context = with_domains k (a ∷ context)

-- How many domains the kind has.
abbrev pub domain_count : Kind → ℕ
domain_count Ty = 0
domain_count (PiKind a k) = suc (domain_count k)
