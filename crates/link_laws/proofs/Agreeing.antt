-- Two maps that agree on the constants of a signature translate alike what holds only these.
use Rattle.std.proofs.Common.{◌≡◌, ℕ, suc, Option, Some, None, option_map, refl, ap, ap₂}
use Rattle.lf_meaning.specs.Terms.{Constant, Object, Lam, At, Atomic, Var, Con, App, Family, Pi, AtFamily, AtomicFamily, FamilyCon, FamilyApp, Kind, Ty, PiKind}
use Rattle.lf_meaning.specs.Erasure.{head_constant}
use Rattle.lf_meaning.specs.Signatures.{Class, FamilyClass, KindClass, Value, SameAs, TermValue, FamilyValue, Signature, class_of}
use Rattle.lf_meaning.specs.Replacement.{Headed, object_of, takes, replace, replace_head, of_constants}
use Rattle.translation_meaning.specs.Heads.{head_takes}
use Rattle.lf_meaning.specs.HeadMaps.{HeadMap, image_of}
use Rattle.translation_meaning.specs.Translation.{headed_image, translate_object, family_head_image, translate_head, family_of, translate_family, translate_kind, translate_class, object_value, family_value, same_image, translate_value}
use Rattle.library_meaning.specs.Holding.{ObjectHolds, AtomicHolds, ArgumentsHold, FamilyHolds, KindHolds, ClassHolds, ValueHolds, OptionalValueHolds}
use Rattle.lf_term_laws.proofs.Declarations.{AgreeOn}

abbrev heads_of : HeadMap → Constant → Headed
heads_of along c = headed_image c (image_of along c)

module _ (signature : Signature) (a b : HeadMap) (same : AgreeOn signature a b) where
  mutual
    object_alike : (m : Object) (n v : ℕ) → ObjectHolds signature v m → replace (of_constants (heads_of a)) n m ≡ replace (of_constants (heads_of b)) n m
    object_alike (Lam m) n v h = ap Lam (object_alike m (suc n) (suc v) h)
    object_alike (At r) n v h = ap object_of (atomic_alike r n v h)

    atomic_alike : (r : Atomic) (n v : ℕ) → AtomicHolds signature v r → replace_head (of_constants (heads_of a)) n r ≡ replace_head (of_constants (heads_of b)) n r
    atomic_alike (Var i) n v h = refl
    atomic_alike (Con c) n v h = ap (headed_image c) (same c (FamilyClass h.0) h.1)
    atomic_alike (App r m) n v h = ap₂ takes (atomic_alike r n v h.0) (object_alike m n v h.1)

  pub objects_alike : (m : Object) (v : ℕ) → ObjectHolds signature v m → translate_object a m ≡ translate_object b m
  unfolding translate_object
  objects_alike m v h = object_alike m 0 v h

  heads_alike : (p : AtomicFamily) (v : ℕ) (class : Class) → class_of signature (head_constant p) ≡ Some class → ArgumentsHold signature v p → translate_head a p ≡ translate_head b p
  unfolding translate_head
  heads_alike (FamilyCon c) v class e h = ap (family_head_image c) (same c class e)
  heads_alike (FamilyApp p m) v class e h = ap₂ head_takes (heads_alike p v class e h.0) (objects_alike m v h.1)

  pub families_alike : (f : Family) (v : ℕ) → FamilyHolds signature v f → translate_family a f ≡ translate_family b f
  unfolding translate_family
  families_alike (Pi domain body) v h = ap₂ Pi (families_alike domain v h.0) (families_alike body (suc v) h.1)
  families_alike (AtFamily p) v h = let k = h.0 in ap (λ head. family_of head p) (heads_alike p v (KindClass k.0) k.1 h.1)

  pub kinds_alike : (k : Kind) (v : ℕ) → KindHolds signature v k → translate_kind a k ≡ translate_kind b k
  unfolding translate_kind
  kinds_alike Ty v h = refl
  kinds_alike (PiKind domain kind) v h = ap₂ PiKind (families_alike domain v h.0) (kinds_alike kind (suc v) h.1)

  pub classes_alike : (class : Class) → ClassHolds signature class → translate_class a class ≡ translate_class b class
  classes_alike (FamilyClass family) h = ap FamilyClass (families_alike family 0 h)
  classes_alike (KindClass kind) h = ap KindClass (kinds_alike kind 0 h)

  pub values_alike : (class : Class) (value : Value) → ValueHolds signature class value → translate_value a value ≡ translate_value b value
  unfolding translate_value
  values_alike (FamilyClass family) (SameAs c) h = ap (same_image c) (same c (FamilyClass h.0) h.1)
  values_alike (KindClass kind) (SameAs c) h = ap (same_image c) (same c (KindClass h.0) h.1)
  values_alike (FamilyClass family) (TermValue m) h = ap object_value (objects_alike m 0 h.0)
  values_alike (KindClass kind) (TermValue m) h = absurd h
  values_alike (FamilyClass family) (FamilyValue binders body) h = absurd h
  values_alike (KindClass kind) (FamilyValue binders body) h = ap (family_value binders) (families_alike body binders h.1)

  pub definitions_alike : (class : Class) (value : Option Value) → OptionalValueHolds signature class value → option_map (translate_value a) value ≡ option_map (translate_value b) value
  definitions_alike class None h = refl
  definitions_alike class (Some value) h = ap Some (values_alike class value h)
