-- Raising of the variables of a term (Harper and Licata 2007, section 2: weakening, here with
-- indices).
use Rattle.std.specs.Prelude.{[], ◌∷◌, length, ℕ, suc, ◌+◌, nat_lt, if◌then◌else◌}
use Rattle.lf_meaning.specs.Terms.{Object, Lam, At, Atomic, Var, Con, App, Family, Pi, AtFamily, AtomicFamily, FamilyCon, FamilyApp, Kind, Ty, PiKind, Context}

-- Every index that is not below `from` grows by `by`.
abbrev pub raised : ℕ → ℕ → ℕ → ℕ
raised by from i = if nat_lt i from then i else (i + by)

-- Raising by `by` from `from`: every index not below `from` grows by `by`, with `from` counted at
-- the top of the term, so under a binder it is one more.
abbrev mutual
  pub raise : ℕ → ℕ → Object → Object
  raise by from (Lam m) = Lam (raise by (suc from) m)
  raise by from (At r) = At (raise_atomic by from r)

  pub raise_atomic : ℕ → ℕ → Atomic → Atomic
  raise_atomic by from (Var i) = Var (raised by from i)
  raise_atomic by from (Con c) = Con c
  raise_atomic by from (App r m) = App (raise_atomic by from r) (raise by from m)

-- A family with a function on objects done to each argument, given the number of binders above it,
-- which is `n` at the top. The constants at the heads stay.
abbrev mutual
  pub map_family : (ℕ → Object → Object) → ℕ → Family → Family
  map_family f n (Pi a b) = Pi (map_family f n a) (map_family f (suc n) b)
  map_family f n (AtFamily p) = AtFamily (map_atomic_family f n p)

  pub map_atomic_family : (ℕ → Object → Object) → ℕ → AtomicFamily → AtomicFamily
  map_atomic_family f n (FamilyCon c) = FamilyCon c
  map_atomic_family f n (FamilyApp p m) = FamilyApp (map_atomic_family f n p) (f n m)

-- The same for a kind.
abbrev pub map_kind : (ℕ → Object → Object) → ℕ → Kind → Kind
map_kind f n Ty = Ty
map_kind f n (PiKind a k) = PiKind (map_family f n a) (map_kind f (suc n) k)

-- Raising of a family.
abbrev pub raise_family : ℕ → ℕ → Family → Family
raise_family by from a = map_family (raise by) from a

-- Raising of an atomic family.
abbrev pub raise_atomic_family : ℕ → ℕ → AtomicFamily → AtomicFamily
raise_atomic_family by from p = map_atomic_family (raise by) from p

-- Raising of a kind.
abbrev pub raise_kind : ℕ → ℕ → Kind → Kind
raise_kind by from k = map_kind (raise by) from k

-- The families of a context that stand inside of some variable, each with the function done at the
-- number of families between it and that variable.
abbrev pub map_context : (ℕ → Object → Object) → Context → Context
map_context f [] = []
map_context f (a ∷ context) = map_family f (length context) a ∷ map_context f context

-- Raising of the families that stand inside of the place at which variables were put in.
abbrev pub raise_context : ℕ → Context → Context
raise_context by context = map_context (raise by) context
