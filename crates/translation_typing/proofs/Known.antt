-- Terms whose constants a signature has: what is sorted over it, raised, and substituted.
use Rattle.std.proofs.Common.{◌≡◌, ℕ, suc, List, [], ◌∷◌, ◌++◌, length, Option, Some, None, refl}
use Rattle.lf_meaning.specs.Terms.{Constant, Object, Lam, At, Atomic, Var, Con, App, Family, Pi, AtFamily, AtomicFamily, FamilyCon, FamilyApp, Kind, Ty, PiKind, Simple, Base, Arrow, SimpleContext}
use Rattle.lf_meaning.specs.Erasure.{erase}
use Rattle.lf_meaning.specs.Raising.{raise, raise_atomic, raise_family, raise_atomic_family, raise_kind}
use Rattle.lf_meaning.specs.Substitution.{substitute, substitute_family, substitute_atomic_family, substitute_kind}
use Rattle.lf_meaning.specs.Signatures.{Class, Signature, class_of}
use Rattle.lf_meaning.specs.Sorts.{HasSort, SynthesisesSort, sort_of_class, sorts_of}
use Rattle.lf_substitution_laws.proofs.Sorting.{keeps_sorts}
use Rattle.translation_typing.specs.KindedFamilies.{class_domains, HasDomains, IsKinded, IsKindedKind}

module _ (sig : Signature) where
  abbrev pub IsKnown : Constant → Type 0
  IsKnown c = (class : Class) × (class_of sig c ≡ Some class)

  abbrev mutual
    pub ObjectKnown : Object → Type 0
    ObjectKnown (Lam m) = ObjectKnown m
    ObjectKnown (At r) = AtomicKnown r

    pub AtomicKnown : Atomic → Type 0
    AtomicKnown (Var i) = Unit {0}
    AtomicKnown (Con c) = IsKnown c
    AtomicKnown (App r m) = AtomicKnown r × ObjectKnown m

  abbrev pub HeadKnown : AtomicFamily → Type 0
  HeadKnown (FamilyCon c) = IsKnown c
  HeadKnown (FamilyApp p m) = HeadKnown p × ObjectKnown m

  abbrev pub FamilyKnown : Family → Type 0
  FamilyKnown (Pi a b) = FamilyKnown a × FamilyKnown b
  FamilyKnown (AtFamily p) = HeadKnown p

  abbrev pub KindKnown : Kind → Type 0
  KindKnown Ty = Unit {0}
  KindKnown (PiKind a k) = FamilyKnown a × KindKnown k

  -- ---- what is sorted

  sorted_constant : (c : Constant) (t : Simple) (o : Option Class) → class_of sig c ≡ o → sort_of_class o ≡ Some t → IsKnown c
  sorted_constant c t None e h = absurd (cc)
  sorted_constant c t (Some class) e h = (class, e)

  mutual
    pub object_known : (context : SimpleContext) (m : Object) (t : Simple) → HasSort (sorts_of sig) context m t → ObjectKnown m
    object_known context (Lam m) (Arrow s t) h = object_known (s ∷ context) m t h
    object_known context (Lam m) (Base c) h = absurd h
    object_known context (At r) (Arrow s t) h = absurd h
    object_known context (At r) (Base c) h = atomic_known context r (Base c) h

    pub atomic_known : (context : SimpleContext) (r : Atomic) (t : Simple) → SynthesisesSort (sorts_of sig) context r t → AtomicKnown r
    atomic_known context (Var i) t h = tt
    atomic_known context (Con c) t h = sorted_constant c t (class_of sig c) refl h
    atomic_known context (App r m) t h = (atomic_known context r (Arrow h.domain t) h.head_has, object_known context m h.domain h.argument_has)

  kinded_constant : (c : Constant) (rest : List Simple) (o : Option Class) → class_of sig c ≡ o → class_domains o ≡ Some rest → IsKnown c
  kinded_constant c rest None e h = absurd (cc)
  kinded_constant c rest (Some class) e h = (class, e)

  pub head_known : (context : SimpleContext) (p : AtomicFamily) (rest : List Simple) → HasDomains sig context p rest → HeadKnown p
  head_known context (FamilyCon c) rest h = kinded_constant c rest (class_of sig c) refl h
  head_known context (FamilyApp p m) rest h = (head_known context p (h.domain ∷ rest) h.head_has, object_known context m h.domain h.argument_has)

  pub family_known : (context : SimpleContext) (a : Family) → IsKinded sig context a → FamilyKnown a
  family_known context (Pi a b) h = (family_known context a h.0, family_known (erase a ∷ context) b h.1)
  family_known context (AtFamily p) h = head_known context p [] h

  pub kind_known : (context : SimpleContext) (k : Kind) → IsKindedKind sig context k → KindKnown k
  kind_known context Ty h = tt
  kind_known context (PiKind a k) h = (family_known context a h.0, kind_known (erase a ∷ context) k h.1)

  -- ---- what is raised

  module _ (by : ℕ) where
    mutual
      pub raised_object_known : (at : ℕ) (m : Object) → ObjectKnown m → ObjectKnown (raise by at m)
      raised_object_known at (Lam m) h = raised_object_known (suc at) m h
      raised_object_known at (At r) h = raised_atomic_known at r h

      raised_atomic_known : (at : ℕ) (r : Atomic) → AtomicKnown r → AtomicKnown (raise_atomic by at r)
      raised_atomic_known at (Var i) h = tt
      raised_atomic_known at (Con c) h = h
      raised_atomic_known at (App r m) h = (raised_atomic_known at r h.0, raised_object_known at m h.1)

    raised_head_known : (at : ℕ) (p : AtomicFamily) → HeadKnown p → HeadKnown (raise_atomic_family by at p)
    raised_head_known at (FamilyCon c) h = h
    raised_head_known at (FamilyApp p m) h = (raised_head_known at p h.0, raised_object_known at m h.1)

    pub raised_family_known : (at : ℕ) (a : Family) → FamilyKnown a → FamilyKnown (raise_family by at a)
    raised_family_known at (Pi a b) h = (raised_family_known at a h.0, raised_family_known (suc at) b h.1)
    raised_family_known at (AtFamily p) h = raised_head_known at p h

    pub raised_kind_known : (at : ℕ) (k : Kind) → KindKnown k → KindKnown (raise_kind by at k)
    raised_kind_known at Ty h = tt
    raised_kind_known at (PiKind a k) h = (raised_family_known at a h.0, raised_kind_known (suc at) k h.1)

  -- ---- what is substituted

  module _ (before : SimpleContext) (v : Object) (u : Simple) (value : HasSort (sorts_of sig) before v u) where
    pub substituted_object_known : (after : SimpleContext) (m : Object) (t : Simple) → HasSort (sorts_of sig) (after ++ (u ∷ before)) m t → ObjectKnown (substitute v u (length after) m)
    substituted_object_known after m t h = object_known (after ++ before) (substitute v u (length after) m) t (keeps_sorts u (sorts_of sig) after before v m t value h)

    substituted_head_known : (after : SimpleContext) (p : AtomicFamily) (rest : List Simple) → HasDomains sig (after ++ (u ∷ before)) p rest → HeadKnown (substitute_atomic_family v u (length after) p)
    substituted_head_known after (FamilyCon c) rest h = kinded_constant c rest (class_of sig c) refl h
    substituted_head_known after (FamilyApp p m) rest h = (substituted_head_known after p (h.domain ∷ rest) h.head_has, substituted_object_known after m h.domain h.argument_has)

    pub substituted_family_known : (after : SimpleContext) (a : Family) → IsKinded sig (after ++ (u ∷ before)) a → FamilyKnown (substitute_family v u (length after) a)
    substituted_family_known after (Pi a b) h = (substituted_family_known after a h.0, substituted_family_known (erase a ∷ after) b h.1)
    substituted_family_known after (AtFamily p) h = substituted_head_known after p [] h

    pub substituted_kind_known : (after : SimpleContext) (k : Kind) → IsKindedKind sig (after ++ (u ∷ before)) k → KindKnown (substitute_kind v u (length after) k)
    substituted_kind_known after Ty h = tt
    substituted_kind_known after (PiKind a k) h = (substituted_family_known after a h.0, substituted_kind_known (erase a ∷ after) k h.1)
