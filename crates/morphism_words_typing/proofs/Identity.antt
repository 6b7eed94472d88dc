-- The identity of a well-typed signature, with proper values, is typed, and translates what is typed to itself.
use Rattle.std.proofs.Common.{◌≡◌, ℕ, zero, suc, [], ◌∷◌, slice_get, Bool, true, false, cond, Option, Some, None, option_map, refl, sym, ap, ap₂, ◌∙◌}
use Rattle.lf_meaning.specs.Terms.{Constant, Object, Lam, At, Atomic, Var, Con, App, Family, Pi, AtFamily, AtomicFamily, FamilyCon, FamilyApp, Kind, Ty, PiKind, with_domains}
use Rattle.lf_meaning.specs.Erasure.{erase, erase_context, head_constant}
use Rattle.lf_meaning.specs.Replacement.{Kept, object_of, takes, replace, replace_head, of_constants}
use Rattle.lf_meaning.specs.Signatures.{Class, FamilyClass, KindClass, Value, SameAs, TermValue, FamilyValue, Declaration, Signature, same_constant, declaration_of, undefined_class, declared_class, class_of}
use Rattle.lf_meaning.specs.Judgements.{IsClass, Fits, IsSignature}
use Rattle.lf_term_laws.proofs.Equality.{same_constant_sound}
use Rattle.lf_typing.proofs.Typed.{checks_sort}
use Rattle.lf_typing.proofs.Declared.{declared_as}
use Rattle.translation_meaning.specs.Heads.{FamilyHead, head_takes}
use Rattle.lf_meaning.specs.HeadMaps.{Image, HeadMap, image_of}
use Rattle.translation_meaning.specs.Translation.{headed_image, family_head_image, family_of, image_kind, translate_object, translate_head, translate_family, translate_kind, translate_class, translate_value, object_value, family_value, same_image}
use Rattle.translation_meaning.specs.ProperValues.{IsProperValue}
use Rattle.translation_meaning.specs.TypedMaps.{KeepsValue, IsTypedMap}
use Rattle.translation_typing.proofs.Images.{by_images}
use Rattle.translation_typing.proofs.Kinded.{family_kinded, kind_kinded}
use Rattle.translation_typing.proofs.Known.{ObjectKnown, AtomicKnown, HeadKnown, FamilyKnown, KindKnown, object_known, family_known, kind_known}
use Rattle.translation_typing.proofs.Proper.{proper_object, proper_body}
use Rattle.translation_typing.proofs.DeclaredTyped.{declared_typed}
use Rattle.library_meaning.specs.Holding.{ObjectHolds, AtomicHolds, ArgumentsHold, FamilyHolds, KindHolds, ClassHolds}
use Rattle.library_meaning.specs.Words.{own_value, identity_mapping, identity_map}
use Rattle.std.proofs.lemmas.Option.{same_Some}

-- each constant has itself as its image
abbrev pub IsIdentityOn : Signature → HeadMap → Type 0
IsIdentityOn sig along = (c : Constant) (class : Class) → class_of sig c ≡ Some class → image_of along c ≡ Some (record { class = class; value = SameAs c })

module _ (sig : Signature) (along : HeadMap) (identity : IsIdentityOn sig along) where
  mutual
    same_replaced : (n : ℕ) (m : Object) → ObjectKnown sig m → replace (of_constants (by_images along)) n m ≡ m
    same_replaced n (Lam m) h = ap Lam (same_replaced (suc n) m h)
    same_replaced n (At r) h = ap object_of (same_head n r h)

    same_head : (n : ℕ) (r : Atomic) → AtomicKnown sig r → replace_head (of_constants (by_images along)) n r ≡ Kept r
    same_head n (Var i) h = refl
    same_head n (Con c) h = ap (headed_image c) (identity c h.0 h.1)
    same_head n (App r m) h = ap₂ takes (same_head n r h.0) (same_replaced n m h.1)

  object_same : (m : Object) → ObjectKnown sig m → translate_object along m ≡ m
  unfolding translate_object
  object_same m h = same_replaced zero m h

  taken : (k : Kind) (p : AtomicFamily) (m n : Object) → m ≡ n → (l : Kind) × (head_takes (FamilyHead zero (AtFamily p) k) m ≡ FamilyHead zero (AtFamily (FamilyApp p n)) l)
  taken Ty p m n e = (Ty, ap (λ z. FamilyHead zero (AtFamily (FamilyApp p z)) Ty) e)
  taken (PiKind a k) p m n e = (_, ap (λ z. head_takes (FamilyHead zero (AtFamily p) (PiKind a k)) z) e)

  head_same : (p : AtomicFamily) → HeadKnown sig p → (k : Kind) × (translate_head along p ≡ FamilyHead zero (AtFamily p) k)
  unfolding translate_head
  head_same (FamilyCon c) h = (image_kind h.0, ap (family_head_image c) (identity c h.0 h.1))
  head_same (FamilyApp p m) h =
      let q = head_same p h.0 in
      let t = taken q.0 p (translate_object along m) m (object_same m h.1) in
      (t.0, ap (λ z. head_takes z (translate_object along m)) q.1 ∙ t.1)

  family_same : (a : Family) → FamilyKnown sig a → translate_family along a ≡ a
  unfolding translate_family
  family_same (Pi a b) h = ap₂ Pi (family_same a h.0) (family_same b h.1)
  family_same (AtFamily p) h = ap (λ z. family_of z p) (head_same p h).1

  kind_same : (k : Kind) → KindKnown sig k → translate_kind along k ≡ k
  unfolding translate_kind
  kind_same Ty h = refl
  kind_same (PiKind a k) h = ap₂ PiKind (family_same a h.0) (kind_same k h.1)

  pub class_same : (class : Class) → IsClass sig class → translate_class along class ≡ class
  class_same (FamilyClass a) h = ap FamilyClass (family_same a (family_known sig [] a (family_kinded sig [] a h)))
  class_same (KindClass k) h = ap KindClass (kind_same k (kind_known sig [] k (kind_kinded sig [] k h)))

  -- so do terms of which no more is known than that they hold only such constants
  mutual
    object_held : (n : ℕ) (m : Object) → ObjectHolds sig n m → ObjectKnown sig m
    object_held n (Lam m) h = object_held (suc n) m h
    object_held n (At r) h = atomic_held n r h

    atomic_held : (n : ℕ) (r : Atomic) → AtomicHolds sig n r → AtomicKnown sig r
    atomic_held n (Var i) h = tt
    atomic_held n (Con c) h = (FamilyClass h.0, h.1)
    atomic_held n (App r m) h = (atomic_held n r h.0, object_held n m h.1)

  head_held : (n : ℕ) (p : AtomicFamily) (class : Class) → class_of sig (head_constant p) ≡ Some class → ArgumentsHold sig n p → HeadKnown sig p
  head_held n (FamilyCon c) class e h = (class, e)
  head_held n (FamilyApp p m) class e h = (head_held n p class e h.0, object_held n m h.1)

  family_held : (n : ℕ) (a : Family) → FamilyHolds sig n a → FamilyKnown sig a
  family_held n (Pi a b) h = (family_held n a h.0, family_held (suc n) b h.1)
  family_held n (AtFamily p) h = let k = h.0 in head_held n p (KindClass k.0) k.1 h.1

  kind_held : (n : ℕ) (k : Kind) → KindHolds sig n k → KindKnown sig k
  kind_held n Ty h = tt
  kind_held n (PiKind a k) h = (family_held n a h.0, kind_held (suc n) k h.1)

  pub held_class_same : (class : Class) → ClassHolds sig class → translate_class along class ≡ class
  held_class_same (FamilyClass a) h = ap FamilyClass (family_same a (family_held 0 a h))
  held_class_same (KindClass k) h = ap KindClass (kind_same k (kind_held 0 k h))

  pub value_same : (class : Class) (value : Value) → Fits sig value class → IsProperValue value → translate_value along value ≡ value
  unfolding translate_value
  value_same class (SameAs c) h q = ap (same_image c) (identity c class h)
  value_same (FamilyClass a) (TermValue m) h q = ap object_value (object_same m (object_known sig [] m (erase a) (checks_sort sig [] m a h))) ∙ proper_object m q
  value_same (KindClass k) (TermValue m) h q = absurd h
  value_same (FamilyClass a) (FamilyValue n body) h q = absurd h
  value_same (KindClass k) (FamilyValue zero body) h q =
      ap (family_value zero) (family_same body (family_known sig (erase_context (with_domains k [])) body (family_kinded sig (with_domains k []) body h.1))) ∙ proper_body body q
  value_same (KindClass k) (FamilyValue (suc n) body) h q =
      ap (family_value (suc n)) (family_same body (family_known sig (erase_context (with_domains k [])) body (family_kinded sig (with_domains k []) body h.1)))

-- ---- the identity map

identity_by : (b : Bool) (d : Declaration) (o : Option Declaration) (more : Option Image) → more ≡ option_map (λ (x : Declaration). (identity_mapping x).image) o
    → cond b (Some (identity_mapping d).image) more ≡ option_map (λ (x : Declaration). (identity_mapping x).image) (cond b (Some d) o)
identity_by true d o more h = refl
identity_by false d o more h = h

pub identity_image : (sig : Signature) (c : Constant) → image_of (identity_map sig) c ≡ option_map (λ (x : Declaration). (identity_mapping x).image) (declaration_of sig c)
unfolding image_of
identity_image [] c = refl
identity_image (d ∷ sig) c = identity_by (same_constant d.name c) d (declaration_of sig c) (image_of (identity_map sig) c) (identity_image sig c)

named_by : (b : Bool) (e d : Declaration) (c : Constant) (o : Option Declaration) → same_constant e.name c ≡ b → (o ≡ Some d → d.name ≡ c) → cond b (Some e) o ≡ Some d → d.name ≡ c
named_by true e d c o f g h = ap (λ (z : Declaration). z.name) (same_Some _ _ (sym h)) ∙ same_constant_sound e.name c f
named_by false e d c o f g h = g h

pub declared_name : (sig : Signature) (c : Constant) (d : Declaration) → declaration_of sig c ≡ Some d → d.name ≡ c
declared_name [] c d h = absurd (cc)
declared_name (e ∷ sig) c d h = named_by (same_constant e.name c) e d c (declaration_of sig c) refl (declared_name sig c d) h

pub undefined_is : (o : Option Value) (class found : Class) → undefined_class o class ≡ Some found → (o ≡ None) × (class ≡ found)
undefined_is None class found h = (refl, same_Some _ _ h)
undefined_is (Some v) class found h = absurd (cc)

pub identity_on : (sig : Signature) → IsIdentityOn sig (identity_map sig)
identity_on sig c class h =
    let d = declared_as sig c class h in
    let u = undefined_is d.declaration.value d.declaration.class class d.classified in
    let name = declared_name sig c d.declaration d.found in
    identity_image sig c ∙ ap (option_map (λ (x : Declaration). (identity_mapping x).image)) d.found
    ∙ ap Some (ap₂ made u.1 (ap (λ o. own_value d.declaration o) u.0 ∙ ap SameAs name))
  where
    made : Class → Value → Image
    made k v = record { class = k; value = v }

-- each declaration is found by its name, and its value is proper
module _ (sig : Signature) (typed : IsSignature sig) (found : (i : ℕ) (d : Declaration) → slice_get sig i ≡ Some d → declaration_of sig d.name ≡ Some d) (proper : (i : ℕ) (d : Declaration) → slice_get sig i ≡ Some d → (v : Value) → d.value ≡ Some v → IsProperValue v) where
  fits_own : (d : Declaration) (o : Option Value) → d.value ≡ o → class_of sig d.name ≡ undefined_class o d.class → ((v : Value) → d.value ≡ Some v → Fits sig v d.class) → Fits sig (own_value d o) d.class
  fits_own d None e h f = h
  fits_own d (Some v) e h f = f v e

  keeps_own : (d : Declaration) (o : Option Value) (image : Image) → image.value ≡ own_value d o → ((v : Value) → o ≡ Some v → translate_value (identity_map sig) v ≡ v) → KeepsValue (identity_map sig) o image
  keeps_own d None image e f = tt
  keeps_own d (Some v) image e f = e ∙ sym (f v refl)

  pub identity_typed : IsTypedMap sig sig (identity_map sig)
  identity_typed i d e =
      let t = declared_typed sig typed i d e in
      record {
        image = (identity_mapping d).image;
        mapped = identity_image sig d.name ∙ ap (option_map (λ (x : Declaration). (identity_mapping x).image)) (found i d e);
        class = sym (class_same sig (identity_map sig) (identity_on sig) d.class t.class);
        fits = fits_own d d.value refl (ap declared_class (found i d e)) t.value;
        value = keeps_own d d.value (identity_mapping d).image refl (λ v q. value_same sig (identity_map sig) (identity_on sig) d.class v (t.value v q) (proper i d e v q));
      }
