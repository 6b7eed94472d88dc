-- What holds goes on to hold over a signature that has more, and with more variables.
use Rattle.std.proofs.Common.{ℕ, suc, ◌≤◌, Option, Some, None, arith}
use Rattle.lf_meaning.specs.Terms.{Object, Lam, At, Atomic, Var, Con, App, Family, Pi, AtFamily, AtomicFamily, FamilyCon, FamilyApp, Kind, Ty, PiKind}
use Rattle.lf_meaning.specs.Signatures.{Class, FamilyClass, KindClass, Value, SameAs, TermValue, FamilyValue, Signature}
use Rattle.library_meaning.specs.Holding.{ObjectHolds, AtomicHolds, ArgumentsHold, FamilyHolds, KindHolds, ClassHolds, ValueHolds, OptionalValueHolds}
use Rattle.constant_laws.specs.HoldingLaws.{Grows}

module _ (from to : Signature) (grown : Grows from to) where
  mutual
    pub object_grows : (m : Object) (v w : ℕ) → v ≤ w → ObjectHolds from v m → ObjectHolds to w m
    object_grows (Lam m) v w l h = object_grows m (suc v) (suc w) (omega (arith, l)) h
    object_grows (At r) v w l h = atomic_grows r v w l h

    pub atomic_grows : (r : Atomic) (v w : ℕ) → v ≤ w → AtomicHolds from v r → AtomicHolds to w r
    atomic_grows (Var i) v w l h = omega (arith, l, h)
    atomic_grows (Con c) v w l h = (h.0, grown c (FamilyClass h.0) h.1)
    atomic_grows (App r m) v w l h = (atomic_grows r v w l h.0, object_grows m v w l h.1)

  pub arguments_grow : (p : AtomicFamily) (v w : ℕ) → v ≤ w → ArgumentsHold from v p → ArgumentsHold to w p
  arguments_grow (FamilyCon c) v w l h = tt
  arguments_grow (FamilyApp p m) v w l h = (arguments_grow p v w l h.0, object_grows m v w l h.1)

  pub family_grows : (f : Family) (v w : ℕ) → v ≤ w → FamilyHolds from v f → FamilyHolds to w f
  family_grows (Pi domain body) v w l h = (family_grows domain v w l h.0, family_grows body (suc v) (suc w) (omega (arith, l)) h.1)
  family_grows (AtFamily p) v w l h = let k = h.0 in ((k.0, grown _ (KindClass k.0) k.1, k.2), arguments_grow p v w l h.1)

  pub kind_grows : (k : Kind) (v w : ℕ) → v ≤ w → KindHolds from v k → KindHolds to w k
  kind_grows Ty v w l h = tt
  kind_grows (PiKind domain kind) v w l h = (family_grows domain v w l h.0, kind_grows kind (suc v) (suc w) (omega (arith, l)) h.1)

  pub class_grows : (class : Class) → ClassHolds from class → ClassHolds to class
  class_grows (FamilyClass family) h = family_grows family 0 0 (omega arith) h
  class_grows (KindClass kind) h = kind_grows kind 0 0 (omega arith) h

  pub value_grows : (class : Class) (value : Value) → ValueHolds from class value → ValueHolds to class value
  value_grows (FamilyClass family) (SameAs c) h = (h.0, grown c (FamilyClass h.0) h.1)
  value_grows (KindClass kind) (SameAs c) h = (h.0, grown c (KindClass h.0) h.1, h.2)
  value_grows (FamilyClass family) (TermValue m) h = (object_grows m 0 0 (omega arith) h.0, h.1)
  value_grows (KindClass kind) (TermValue m) h = absurd h
  value_grows (FamilyClass family) (FamilyValue binders body) h = absurd h
  value_grows (KindClass kind) (FamilyValue binders body) h = (h.0, family_grows body binders binders (omega arith) h.1, h.2)

  pub optional_grows : (class : Class) (value : Option Value) → OptionalValueHolds from class value → OptionalValueHolds to class value
  optional_grows class None h = tt
  optional_grows class (Some value) h = value_grows class value h
