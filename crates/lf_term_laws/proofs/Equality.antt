-- The tests of equality decide it.
use Rattle.std.proofs.Common.{◌≡◌, List, [], ◌∷◌, Bool, true, nat_eq, refl, ap, ap₂, subst, Decides, eqb-true, eq-eqb}
use Rattle.std.proofs.lemmas.Bool.{and_parts, and_from}
use lib.Pointwise.{pointwise}
use Rattle.lf_meaning.specs.Below.Names.{same_name}
use Rattle.lf_meaning.specs.Terms.{Constant, Object, Lam, At, Atomic, Var, Con, App, Family, Pi, AtFamily, AtomicFamily, FamilyCon, FamilyApp, Kind, Ty, PiKind}
use Rattle.lf_meaning.specs.Signatures.{same_constant, Class, FamilyClass, KindClass, Value, SameAs, TermValue, FamilyValue}
use Rattle.lf_meaning.specs.Equality.{same_object, same_atomic, same_atomic_family, same_family, same_kind, same_class, same_value}
use Rattle.name_laws.proofs.Order.{same_sound, same_itself}

module _ {A : Type 0} (test : A → A → Bool) where
  pub pointwise_sound : ((x y : A) → test x y ≡ true → x ≡ y) → (xs ys : List A) → pointwise test xs ys ≡ true → xs ≡ ys
  pointwise_sound f [] [] h = refl
  pointwise_sound f [] (y ∷ ys) h = absurd (cc)
  pointwise_sound f (x ∷ xs) [] h = absurd (cc)
  pointwise_sound f (x ∷ xs) (y ∷ ys) h = let p = and_parts (test x y) (pointwise test xs ys) h in ap₂ (λ z zs. z ∷ zs) (f x y p.0) (pointwise_sound f xs ys p.1)

  pub pointwise_itself : ((x : A) → test x x ≡ true) → (xs : List A) → pointwise test xs xs ≡ true
  pointwise_itself f [] = refl
  pointwise_itself f (x ∷ xs) = and_from (test x x) (pointwise test xs xs) (f x) (pointwise_itself f xs)

pub same_constant_sound : (c d : Constant) → same_constant c d ≡ true → c ≡ d
same_constant_sound c d h =
    let p = and_parts (same_name c.theory d.theory) (pointwise same_name c.path d.path) h in
    ap₂ (λ t q. record { theory = t; path = q }) (same_sound c.theory d.theory p.0) (pointwise_sound same_name same_sound c.path d.path p.1)

pub same_constant_itself : (c : Constant) → same_constant c c ≡ true
same_constant_itself c = and_from (same_name c.theory c.theory) (pointwise same_name c.path c.path) (same_itself c.theory) (pointwise_itself same_name same_itself c.path)

mutual
  pub same_object_sound : (m n : Object) → same_object m n ≡ true → m ≡ n
  same_object_sound (Lam m) (Lam n) h = ap Lam (same_object_sound m n h)
  same_object_sound (Lam m) (At s) h = absurd (cc)
  same_object_sound (At r) (Lam n) h = absurd (cc)
  same_object_sound (At r) (At s) h = ap At (same_atomic_sound r s h)

  pub same_atomic_sound : (r s : Atomic) → same_atomic r s ≡ true → r ≡ s
  same_atomic_sound (Var i) (Var j) h = ap Var (eqb-true i j h)
  same_atomic_sound (Var i) (Con d) h = absurd (cc)
  same_atomic_sound (Var i) (App s n) h = absurd (cc)
  same_atomic_sound (Con c) (Var j) h = absurd (cc)
  same_atomic_sound (Con c) (Con d) h = ap Con (same_constant_sound c d h)
  same_atomic_sound (Con c) (App s n) h = absurd (cc)
  same_atomic_sound (App r m) (Var j) h = absurd (cc)
  same_atomic_sound (App r m) (Con d) h = absurd (cc)
  same_atomic_sound (App r m) (App s n) h = let p = and_parts (same_atomic r s) (same_object m n) h in ap₂ App (same_atomic_sound r s p.0) (same_object_sound m n p.1)

mutual
  pub same_object_itself : (m : Object) → same_object m m ≡ true
  same_object_itself (Lam m) = same_object_itself m
  same_object_itself (At r) = same_atomic_itself r

  pub same_atomic_itself : (r : Atomic) → same_atomic r r ≡ true
  same_atomic_itself (Var i) = eq-eqb i i refl
  same_atomic_itself (Con c) = same_constant_itself c
  same_atomic_itself (App r m) = and_from (same_atomic r r) (same_object m m) (same_atomic_itself r) (same_object_itself m)

pub same_atomic_family_sound : (p q : AtomicFamily) → same_atomic_family p q ≡ true → p ≡ q
same_atomic_family_sound (FamilyCon c) (FamilyCon d) h = ap FamilyCon (same_constant_sound c d h)
same_atomic_family_sound (FamilyCon c) (FamilyApp q n) h = absurd (cc)
same_atomic_family_sound (FamilyApp p m) (FamilyCon d) h = absurd (cc)
same_atomic_family_sound (FamilyApp p m) (FamilyApp q n) h = let e = and_parts (same_atomic_family p q) (same_object m n) h in ap₂ FamilyApp (same_atomic_family_sound p q e.0) (same_object_sound m n e.1)

pub same_atomic_family_itself : (p : AtomicFamily) → same_atomic_family p p ≡ true
same_atomic_family_itself (FamilyCon c) = same_constant_itself c
same_atomic_family_itself (FamilyApp p m) = and_from (same_atomic_family p p) (same_object m m) (same_atomic_family_itself p) (same_object_itself m)

pub same_family_sound : (a b : Family) → same_family a b ≡ true → a ≡ b
same_family_sound (Pi a b) (Pi c d) h = let e = and_parts (same_family a c) (same_family b d) h in ap₂ Pi (same_family_sound a c e.0) (same_family_sound b d e.1)
same_family_sound (Pi a b) (AtFamily q) h = absurd (cc)
same_family_sound (AtFamily p) (Pi c d) h = absurd (cc)
same_family_sound (AtFamily p) (AtFamily q) h = ap AtFamily (same_atomic_family_sound p q h)

pub same_family_itself : (a : Family) → same_family a a ≡ true
same_family_itself (Pi a b) = and_from (same_family a a) (same_family b b) (same_family_itself a) (same_family_itself b)
same_family_itself (AtFamily p) = same_atomic_family_itself p

pub same_kind_sound : (k l : Kind) → same_kind k l ≡ true → k ≡ l
same_kind_sound Ty Ty h = refl
same_kind_sound Ty (PiKind b l) h = absurd (cc)
same_kind_sound (PiKind a k) Ty h = absurd (cc)
same_kind_sound (PiKind a k) (PiKind b l) h = let e = and_parts (same_family a b) (same_kind k l) h in ap₂ PiKind (same_family_sound a b e.0) (same_kind_sound k l e.1)

pub same_kind_itself : (k : Kind) → same_kind k k ≡ true
same_kind_itself Ty = refl
same_kind_itself (PiKind a k) = and_from (same_family a a) (same_kind k k) (same_family_itself a) (same_kind_itself k)

pub same_class_sound : (k l : Class) → same_class k l ≡ true → k ≡ l
same_class_sound (FamilyClass a) (FamilyClass b) h = ap FamilyClass (same_family_sound a b h)
same_class_sound (FamilyClass a) (KindClass l) h = absurd (cc)
same_class_sound (KindClass k) (FamilyClass b) h = absurd (cc)
same_class_sound (KindClass k) (KindClass l) h = ap KindClass (same_kind_sound k l h)

pub same_class_itself : (k : Class) → same_class k k ≡ true
same_class_itself (FamilyClass a) = same_family_itself a
same_class_itself (KindClass k) = same_kind_itself k

pub same_value_sound : (v w : Value) → same_value v w ≡ true → v ≡ w
same_value_sound (SameAs c) (SameAs d) h = ap SameAs (same_constant_sound c d h)
same_value_sound (SameAs c) (TermValue n) h = absurd (cc)
same_value_sound (SameAs c) (FamilyValue j b) h = absurd (cc)
same_value_sound (TermValue m) (SameAs d) h = absurd (cc)
same_value_sound (TermValue m) (TermValue n) h = ap TermValue (same_object_sound m n h)
same_value_sound (TermValue m) (FamilyValue j b) h = absurd (cc)
same_value_sound (FamilyValue i a) (SameAs d) h = absurd (cc)
same_value_sound (FamilyValue i a) (TermValue n) h = absurd (cc)
same_value_sound (FamilyValue i a) (FamilyValue j b) h = let e = and_parts (nat_eq i j) (same_family a b) h in ap₂ FamilyValue (eqb-true i j e.0) (same_family_sound a b e.1)

pub same_value_itself : (v : Value) → same_value v v ≡ true
same_value_itself (SameAs c) = same_constant_itself c
same_value_itself (TermValue m) = same_object_itself m
same_value_itself (FamilyValue i a) = and_from (nat_eq i i) (same_family a a) (eq-eqb i i refl) (same_family_itself a)

-- a test that is sound and passes what is the same decides
decides : {A : Type 0} (test : A → A → Bool) → ((x y : A) → test x y ≡ true → x ≡ y) → ((x : A) → test x x ≡ true) → (x y : A) → Decides (test x y) (x ≡ y)
decides test sound itself x y = (sound x y, λ e. subst (λ z. test x z ≡ true) e (itself x))

pub same_constant_decides : (c d : Constant) → Decides (same_constant c d) (c ≡ d)
same_constant_decides = decides same_constant same_constant_sound same_constant_itself

pub same_object_decides : (m n : Object) → Decides (same_object m n) (m ≡ n)
same_object_decides = decides same_object same_object_sound same_object_itself

pub same_atomic_decides : (r s : Atomic) → Decides (same_atomic r s) (r ≡ s)
same_atomic_decides = decides same_atomic same_atomic_sound same_atomic_itself

pub same_family_decides : (a b : Family) → Decides (same_family a b) (a ≡ b)
same_family_decides = decides same_family same_family_sound same_family_itself

pub same_kind_decides : (k l : Kind) → Decides (same_kind k l) (k ≡ l)
same_kind_decides = decides same_kind same_kind_sound same_kind_itself

pub same_class_decides : (k l : Class) → Decides (same_class k l) (k ≡ l)
same_class_decides = decides same_class same_class_sound same_class_itself

pub same_value_decides : (v w : Value) → Decides (same_value v w) (v ≡ w)
same_value_decides = decides same_value same_value_sound same_value_itself
