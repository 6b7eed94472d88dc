-- Along a typed map whose families are atomic below their binders, families, kinds, classes and values are translated as `Translation`
-- says.
use Rattle.std.proofs.Common.{◌≡◌, List, [], ◌∷◌, map, Option, Some, None, refl, sym, ap, ap₂, subst, ◌∙◌}
use Rattle.lf_meaning.specs.Terms.{Constant, Object, Family, Pi, AtFamily, AtomicFamily, FamilyCon, FamilyApp, Kind, Ty, PiKind, Simple, Base, SimpleContext, with_domains}
use Rattle.lf_meaning.specs.Erasure.{erase, erase_context, head_constant}
use Rattle.lf_meaning.specs.Sorts.{HasSort, sort_of_class, sorts_of}
use Rattle.lf_meaning.specs.Signatures.{Class, FamilyClass, KindClass, Value, SameAs, TermValue, FamilyValue, Signature, class_of}
use Rattle.lf_meaning.specs.Judgements.{Fits, IsClass, IsSignature}
use Rattle.lf_meaning.specs.HeadMaps.{Image, HeadMap, image_of}
use Rattle.lf_substitution_laws.proofs.Domains.{everywhere}
use Rattle.lf_substitution_laws.proofs.Commutation.{Anything}
use Rattle.lf_typing.proofs.Typed.{checks_sort}
use Rattle.translation_meaning.specs.Heads.{head_takes}
use Rattle.translation_meaning.specs.Translation as AtomicTranslation
use Rattle.translation_meaning.specs.Translation.{headed_image, family_head_image, family_of, object_value, family_value}
use Rattle.translation_typing.specs.AtomicBodies.{HasAtomicBody, BodiesAreAtomic}
use Rattle.translation_typing.specs.KindedFamilies.{HasDomains, IsKinded, IsKindedKind}
use Rattle.translation_typing.proofs.Kinded.{family_kinded, kind_kinded}
use Rattle.std.proofs.lemmas.Option.{same_Some}
use Rattle.translation_meaning.specs.FunctionFamilies.{carried, PartialFamily, carried_atomic, type_of_value, image_type, typed_value, typed_image, partial_value, partial_image, bases_along, objects_along, families_along, translate_simple, translate_object, translate_family, translate_kind, translate_class, translate_value, erased_domains}
use Rattle.function_family_laws.proofs.CarriedFamilies.{erase_carried, partial_fits}
use Rattle.function_family_laws.proofs.CarriedTyping.{AreTypedImages, typed_objects, typed_families}
use Rattle.function_family_laws.proofs.TypedImages.{Images, images_typed}
use Rattle.function_family_laws.proofs.ErasedTerms.{erase_family, erase_domains, erased_domains_are}
use Rattle.function_family_laws.proofs.AtomicObjects.{SameHead, replaced_object, head_of, kind_taken_same}

-- ---- bases

type_of_value_atomic : (c : Constant) (v : Value) → HasAtomicBody v → (d : Constant) × (type_of_value c v ≡ Base d)
type_of_value_atomic c (SameAs d) h = (d, refl)
type_of_value_atomic c (TermValue m) h = (c, refl)
type_of_value_atomic c (FamilyValue n (AtFamily p)) h = (head_constant p, refl)
type_of_value_atomic c (FamilyValue n (Pi a b)) h = absurd h

image_type_atomic : (along : HeadMap) → BodiesAreAtomic along → (c : Constant) (o : Option Image) → image_of along c ≡ o → (d : Constant) × (image_type c o ≡ Base d)
image_type_atomic along atomic c None e = (c, refl)
image_type_atomic along atomic c (Some image) e = type_of_value_atomic c image.value (atomic c image e)

-- ---- heads of families: the same, whatever the image is

image_same : (c : Constant) (class : Class) (v : Value) → AtomicTranslation.family_image c class v ≡ head_of (partial_value c class v)
image_same c class (SameAs d) = refl
image_same c class (TermValue m) = refl
image_same c class (FamilyValue n body) = refl

constant_same : (c : Constant) (o : Option Image) → family_head_image c o ≡ head_of (partial_image c o)
constant_same c None = refl
constant_same c (Some image) = image_same c image.class image.value

module _ (to : Signature) (target : IsSignature to) (along : HeadMap) (atomic : BodiesAreAtomic along) (from : Signature) (source : IsSignature from) (images : Images from to along) where
  typed_is : AreTypedImages (objects_along along) (families_along along) (bases_along along) from to
  typed_is = images_typed to target along from source images

  abbrev re : Simple → Simple
  re = translate_simple along

  object_image_same : (c : Constant) (a : Family) (v : Value) → Fits to v (FamilyClass a) → SameHead (sorts_of to) [] (typed_value c (FamilyClass a) v) (AtomicTranslation.object_image c (FamilyClass a) v) (erase a)
  object_image_same c a (SameAs d) h = record { type_is = refl; value_is = refl; fits = ap sort_of_class h }
  object_image_same c a (TermValue m) h = record { type_is = refl; value_is = refl; fits = (refl, checks_sort to [] m a h, everywhere Anything (λ s. tt) (erase a)) }
  object_image_same c a (FamilyValue n body) h = absurd h

  constants_same : (c : Constant) (t : Simple) (o : Option Class) → class_of from c ≡ o → sort_of_class o ≡ Some t → SameHead (sorts_of to) [] (objects_along along c) (headed_image c (image_of along c)) (re t)
  constants_same c t None e h = absurd (cc)
  constants_same c t (Some (KindClass k)) e h = absurd (cc)
  constants_same c t (Some (FamilyClass a)) e h =
      let i = images c (FamilyClass a) e in
      let there : Family = translate_family along [] a in
      let at : SameHead (sorts_of to) [] (typed_value c (FamilyClass there) i.image.value) (AtomicTranslation.object_image c (FamilyClass there) i.image.value) (erase there) = object_image_same c there i.image.value (subst (Fits to i.image.value) i.class_is i.fits) in
      subst (SameHead (sorts_of to) [] (objects_along along c) (headed_image c (image_of along c))) (erase_carried (objects_along along) (families_along along) (bases_along along) typed_is.erased [] a ∙ ap re (same_Some _ _ h))
      (subst (λ o. SameHead (sorts_of to) [] (typed_image c o) (headed_image c o) (erase there)) (sym i.mapped)
      (subst (λ z. SameHead (sorts_of to) [] (typed_value c z i.image.value) (AtomicTranslation.object_image c z i.image.value) (erase there)) (sym i.class_is) at))

  pub object_same : (D E : SimpleContext) (m : Object) (t : Simple) → E ≡ map re D → HasSort (sorts_of from) D m t → translate_object along E m (re t) ≡ AtomicTranslation.translate_object along m
  unfolding AtomicTranslation.translate_object
  object_same D E m t e h =
      replaced_object (objects_along along) (λ (c : Constant). headed_image c (image_of along c)) (bases_along along) (sorts_of from) (sorts_of to) (typed_objects (objects_along along) (families_along along) (bases_along along) from to typed_is)
      (λ c. image_type_atomic along atomic c (image_of along c) refl) (λ c s q. constants_same c s (class_of from c) refl q) 0 D E m t e h

  -- ---- families

  partial_same : (D E : SimpleContext) (p : AtomicFamily) (rest : List Simple) → E ≡ map re D → HasDomains from D p rest → AtomicTranslation.translate_head along p ≡ head_of (carried_atomic (objects_along along) (families_along along) E p)
  unfolding AtomicTranslation.translate_head
  partial_same D E (FamilyCon c) rest e h = constant_same c (image_of along c)
  partial_same D E (FamilyApp p m) rest e h =
      let head : PartialFamily = carried_atomic (objects_along along) (families_along along) E p in
      let fits = partial_fits (objects_along along) (families_along along) (bases_along along) from (sorts_of to) (typed_objects (objects_along along) (families_along along) (bases_along along) from to typed_is) (typed_families (objects_along along) (families_along along) (bases_along along) from to typed_is) D E p (h.domain ∷ rest) e h.head_has in
      ap (λ z. head_takes z (AtomicTranslation.translate_object along m)) (partial_same D E p (h.domain ∷ rest) e h.head_has)
      ∙ kind_taken_same (sorts_of to) E head.binders head.family head.kind (carried (objects_along along) E m) (AtomicTranslation.translate_object along m) (re h.domain) (map re rest) fits
      (λ a q. ap (carried (objects_along along) E m) q ∙ object_same D E m h.domain e h.argument_has)

  pub family_same : (D E : SimpleContext) (a : Family) → E ≡ map re D → IsKinded from D a → translate_family along E a ≡ AtomicTranslation.translate_family along a
  unfolding AtomicTranslation.translate_family
  family_same D E (Pi a b) e h =
      ap₂ Pi (family_same D E a e h.0)
      (family_same (erase a ∷ D) (erase (translate_family along E a) ∷ E) b (ap₂ (λ s ss. s ∷ ss) (erase_carried (objects_along along) (families_along along) (bases_along along) typed_is.erased E a) e) h.1)
  family_same D E (AtFamily p) e h = sym (ap (λ z. family_of z p) (partial_same D E p [] e h))

  pub kind_same : (D E : SimpleContext) (k : Kind) → E ≡ map re D → IsKindedKind from D k → translate_kind along E k ≡ AtomicTranslation.translate_kind along k
  unfolding AtomicTranslation.translate_kind
  kind_same D E Ty e h = refl
  kind_same D E (PiKind a k) e h =
      ap₂ PiKind (family_same D E a e h.0)
      (kind_same (erase a ∷ D) (erase (translate_family along E a) ∷ E) k (ap₂ (λ s ss. s ∷ ss) (erase_carried (objects_along along) (families_along along) (bases_along along) typed_is.erased E a) e) h.1)

  pub class_same : (class : Class) → IsClass from class → translate_class along class ≡ AtomicTranslation.translate_class along class
  class_same (FamilyClass a) h = ap FamilyClass (family_same [] [] a refl (family_kinded from [] a h))
  class_same (KindClass k) h = ap KindClass (kind_same [] [] k refl (kind_kinded from [] k h))

  pub value_same : (class : Class) (value : Value) → Fits from value class → translate_value along (translate_class along class) value ≡ AtomicTranslation.translate_value along value
  unfolding AtomicTranslation.translate_value
  value_same class (SameAs c) h = refl
  value_same (FamilyClass a) (TermValue m) h =
      ap (λ s. object_value (translate_object along [] m s)) (erase_family along [] a) ∙ ap object_value (object_same [] [] m (erase a) refl (checks_sort from [] m a h))
  value_same (KindClass k) (TermValue m) h = absurd h
  value_same (FamilyClass a) (FamilyValue n body) h = absurd h
  value_same (KindClass k) (FamilyValue n body) h =
      ap (family_value n)
      (family_same (erase_context (with_domains k [])) (erased_domains (translate_kind along [] k) []) body (erase_domains along [] [] k ∙ ap (map re) (sym (erased_domains_are k []))) (family_kinded from (with_domains k []) body h.1))
