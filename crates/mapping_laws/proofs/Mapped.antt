-- What holds only constants that a map has images for is translated whole.
use Rattle.std.proofs.Common.{◌≡◌, ℕ, suc, true, [], ◌∷◌, Option, Some, None, is_some, refl, ap, ◌∙◌}
use Rattle.lf_meaning.specs.Terms.{Constant, Object, Lam, At, Atomic, Var, Con, App, Family, Pi, AtFamily, AtomicFamily, FamilyCon, FamilyApp, Kind, Ty, PiKind}
use Rattle.lf_meaning.specs.Erasure.{head_constant}
use Rattle.lf_meaning.specs.Signatures.{Class, FamilyClass, KindClass, Value, SameAs, TermValue, FamilyValue, Signature, class_of, declaration_of}
use Rattle.lf_meaning.specs.HeadMaps.{Image, HeadMap, image_of}
use Rattle.lf_term_laws.proofs.Declarations.{declared_some}
use Rattle.translation_meaning.specs.Unmapped.{first_of, without_image, unmapped_object, unmapped_atomic, unmapped_atomic_family, unmapped_family, unmapped_kind, unmapped_class, unmapped_value, unmapped_map}
use Rattle.library_meaning.specs.Holding.{ObjectHolds, AtomicHolds, ArgumentsHold, FamilyHolds, KindHolds, ClassHolds, ValueHolds}
use Rattle.link_laws.proofs.Listing.{declared_mapped}
use Rattle.mapping_laws.specs.MappedWhole.{HasImages, NamesHaveImages, ImagesHold}

neither : (first second : Option Constant) → first ≡ None → second ≡ None → first_of first second ≡ None
neither first second h g = ap (λ o. first_of o second) h ∙ g

pub names_have_images : NamesHaveImages
names_have_images from along e c class h =
    let d = declared_some (declaration_of from c) class h in
    let i = declared_mapped from along e c d.0 d.1 in
    ap is_some i.1

module _ (from : Signature) (along : HeadMap) (has : HasImages from along) where
  constant_mapped : (c : Constant) (class : Class) → class_of from c ≡ Some class → without_image c (image_of along c) ≡ None
  constant_mapped c class h = by (image_of along c) (has c class h)
    where
      by : (o : Option Image) → is_some o ≡ true → without_image c o ≡ None
      by None e = absurd (cc)
      by (Some image) e = refl

  mutual
    unfolding unmapped_object

    pub object_mapped : (m : Object) (v : ℕ) → ObjectHolds from v m → unmapped_object along m ≡ None
    object_mapped (Lam body) v h = object_mapped body (suc v) h
    object_mapped (At r) v h = atomic_mapped r v h

    atomic_mapped : (r : Atomic) (v : ℕ) → AtomicHolds from v r → unmapped_atomic along r ≡ None
    atomic_mapped (Var i) v h = refl
    atomic_mapped (Con c) v h = constant_mapped c (FamilyClass h.0) h.1
    atomic_mapped (App r m) v h = neither (unmapped_atomic along r) (unmapped_object along m) (atomic_mapped r v h.0) (object_mapped m v h.1)

  arguments_mapped : (p : AtomicFamily) (v : ℕ) → without_image (head_constant p) (image_of along (head_constant p)) ≡ None → ArgumentsHold from v p → unmapped_atomic_family along p ≡ None
  unfolding unmapped_atomic_family
  arguments_mapped (FamilyCon c) v h g = h
  arguments_mapped (FamilyApp p m) v h g = neither (unmapped_atomic_family along p) (unmapped_object along m) (arguments_mapped p v h g.0) (object_mapped m v g.1)

  pub family_mapped : (a : Family) (v : ℕ) → FamilyHolds from v a → unmapped_family along a ≡ None
  unfolding unmapped_family
  family_mapped (Pi domain body) v h = neither (unmapped_family along domain) (unmapped_family along body) (family_mapped domain v h.0) (family_mapped body (suc v) h.1)
  family_mapped (AtFamily p) v h = arguments_mapped p v (constant_mapped (head_constant p) (KindClass (h.0).0) (h.0).1) h.1

  kind_mapped : (k : Kind) (v : ℕ) → KindHolds from v k → unmapped_kind along k ≡ None
  unfolding unmapped_kind
  kind_mapped Ty v h = refl
  kind_mapped (PiKind domain kind) v h = neither (unmapped_family along domain) (unmapped_kind along kind) (family_mapped domain v h.0) (kind_mapped kind (suc v) h.1)

  pub class_mapped : (class : Class) → ClassHolds from class → unmapped_class along class ≡ None
  class_mapped (FamilyClass a) h = family_mapped a 0 h
  class_mapped (KindClass k) h = kind_mapped k 0 h

  pub value_mapped : (class : Class) (value : Value) → ValueHolds from class value → unmapped_value along value ≡ None
  value_mapped (FamilyClass a) (SameAs c) h = constant_mapped c (FamilyClass h.0) h.1
  value_mapped (FamilyClass a) (TermValue m) h = object_mapped m 0 h.0
  value_mapped (FamilyClass a) (FamilyValue binders body) h = absurd h
  value_mapped (KindClass k) (SameAs c) h = constant_mapped c (KindClass h.0) h.1
  value_mapped (KindClass k) (TermValue m) h = absurd h
  value_mapped (KindClass k) (FamilyValue binders body) h = family_mapped body binders h.1

  pub map_mapped : (first : HeadMap) → ImagesHold from first → unmapped_map along first ≡ None
  unfolding unmapped_map
  map_mapped [] h = refl
  map_mapped (m ∷ ms) h =
      let q = h 0 m refl in
      neither (first_of (unmapped_class along m.image.class) (unmapped_value along m.image.value)) (unmapped_map along ms)
      (neither (unmapped_class along m.image.class) (unmapped_value along m.image.value) (class_mapped m.image.class q.0) (value_mapped m.image.class m.image.value q.1))
      (map_mapped ms (λ i x p. h (suc i) x p))
