-- Well-sorted terms: the judgements with every family replaced by its erasure (Harper and Licata
-- 2007, section 2, where substitution is shown to end and to keep simple types).
use Rattle.std.specs.Prelude.{◌≡◌, ◌∷◌, Option, Some, None, slice_get}
use Rattle.lf_meaning.specs.Terms.{Constant, Object, Lam, At, Atomic, Var, Con, App, Family, Pi, AtFamily, AtomicFamily, FamilyCon, FamilyApp, Kind, Ty, PiKind, Simple, Base, Arrow, SimpleContext}
use Rattle.lf_meaning.specs.Erasure.{erase}
use Rattle.lf_meaning.specs.Signatures.{Class, FamilyClass, KindClass, Signature, class_of}

-- The simple types of the constants.
abbrev pub Sorts : Type 0
Sorts = Constant → Option Simple

-- Where the head synthesises an arrow and the argument has the sort of its domain, the application
-- synthesises the codomain.
pub record ApplicationHasSort (head : Simple → Type 0) (argument : Simple → Type 0) (t : Simple) : Type 0 where
  pub domain : Simple
  pub head_has : head (Arrow domain t)
  pub argument_has : argument domain

-- `HasSort C D M t`: over the sorts C of the constants and in the simple context D the object M has
-- the sort t. `SynthesisesSort C D R t`: the atomic object R synthesises t.
abbrev mutual
  pub HasSort : Sorts → SimpleContext → Object → Simple → Type 0
  HasSort sorts context (Lam m) (Arrow s t) = HasSort sorts (s ∷ context) m t
  HasSort sorts context (Lam m) (Base c) = ⊥
  HasSort sorts context (At r) (Arrow s t) = ⊥
  HasSort sorts context (At r) (Base c) = SynthesisesSort sorts context r (Base c)

  pub SynthesisesSort : Sorts → SimpleContext → Atomic → Simple → Type 0
  SynthesisesSort sorts context (Var i) t = slice_get context i ≡ Some t
  SynthesisesSort sorts context (Con c) t = sorts c ≡ Some t
  SynthesisesSort sorts context (App r m) t = ApplicationHasSort (SynthesisesSort sorts context r) (HasSort sorts context m) t

-- An object that has some sort.
pub record IsSorted (sorts : Sorts) (context : SimpleContext) (m : Object) : Type 0 where
  pub sort : Simple
  pub has : HasSort sorts context m sort

-- A family, or a kind, is well sorted where every object in it has a sort.
abbrev pub IsSortedAtomicFamily : Sorts → SimpleContext → AtomicFamily → Type 0
IsSortedAtomicFamily sorts context (FamilyCon c) = Unit {0}
IsSortedAtomicFamily sorts context (FamilyApp p m) = IsSortedAtomicFamily sorts context p × IsSorted sorts context m

abbrev pub IsSortedFamily : Sorts → SimpleContext → Family → Type 0
IsSortedFamily sorts context (Pi a b) = IsSortedFamily sorts context a × IsSortedFamily sorts (erase a ∷ context) b
IsSortedFamily sorts context (AtFamily p) = IsSortedAtomicFamily sorts context p

abbrev pub IsSortedKind : Sorts → SimpleContext → Kind → Type 0
IsSortedKind sorts context Ty = Unit {0}
IsSortedKind sorts context (PiKind a k) = IsSortedFamily sorts context a × IsSortedKind sorts (erase a ∷ context) k

-- The simple type of a classifier: none for a kind.
abbrev pub sort_of_class : Option Class → Option Simple
sort_of_class None = None
sort_of_class (Some (FamilyClass a)) = Some (erase a)
sort_of_class (Some (KindClass k)) = None

-- The simple types of the constants of a signature.
abbrev pub sorts_of : Signature → Sorts
sorts_of sig c = sort_of_class (class_of sig c)
