-- Whether two terms are the same tree.
use Rattle.std.specs.Prelude.{Bool, true, false, ◌&&◌, nat_eq}
use Rattle.lf_meaning.specs.Terms.{Object, Lam, At, Atomic, Var, Con, App, Family, Pi, AtFamily, AtomicFamily, FamilyCon, FamilyApp, Kind, Ty, PiKind}
use Rattle.lf_meaning.specs.Signatures.{same_constant, Class, FamilyClass, KindClass, Value, SameAs, TermValue, FamilyValue}

abbrev mutual
  pub same_object : Object → Object → Bool
  same_object (Lam m) (Lam n) = same_object m n
  same_object (Lam m) (At s) = false
  same_object (At r) (Lam n) = false
  same_object (At r) (At s) = same_atomic r s

  pub same_atomic : Atomic → Atomic → Bool
  same_atomic (Var i) (Var j) = nat_eq i j
  same_atomic (Var i) (Con d) = false
  same_atomic (Var i) (App s n) = false
  same_atomic (Con c) (Var j) = false
  same_atomic (Con c) (Con d) = same_constant c d
  same_atomic (Con c) (App s n) = false
  same_atomic (App r m) (Var j) = false
  same_atomic (App r m) (Con d) = false
  same_atomic (App r m) (App s n) = same_atomic r s && same_object m n

abbrev pub same_atomic_family : AtomicFamily → AtomicFamily → Bool
same_atomic_family (FamilyCon c) (FamilyCon d) = same_constant c d
same_atomic_family (FamilyCon c) (FamilyApp q n) = false
same_atomic_family (FamilyApp p m) (FamilyCon d) = false
same_atomic_family (FamilyApp p m) (FamilyApp q n) = same_atomic_family p q && same_object m n

abbrev pub same_family : Family → Family → Bool
same_family (Pi a b) (Pi c d) = same_family a c && same_family b d
same_family (Pi a b) (AtFamily q) = false
same_family (AtFamily p) (Pi c d) = false
same_family (AtFamily p) (AtFamily q) = same_atomic_family p q

abbrev pub same_kind : Kind → Kind → Bool
same_kind Ty Ty = true
same_kind Ty (PiKind b l) = false
same_kind (PiKind a k) Ty = false
same_kind (PiKind a k) (PiKind b l) = same_family a b && same_kind k l

abbrev pub same_class : Class → Class → Bool
same_class (FamilyClass a) (FamilyClass b) = same_family a b
same_class (FamilyClass a) (KindClass l) = false
same_class (KindClass k) (FamilyClass b) = false
same_class (KindClass k) (KindClass l) = same_kind k l

abbrev pub same_value : Value → Value → Bool
same_value (SameAs c) (SameAs d) = same_constant c d
same_value (SameAs c) (TermValue n) = false
same_value (SameAs c) (FamilyValue j b) = false
same_value (TermValue m) (SameAs d) = false
same_value (TermValue m) (TermValue n) = same_object m n
same_value (TermValue m) (FamilyValue j b) = false
same_value (FamilyValue i a) (SameAs d) = false
same_value (FamilyValue i a) (TermValue n) = false
same_value (FamilyValue i a) (FamilyValue j b) = nat_eq i j && same_family a b
