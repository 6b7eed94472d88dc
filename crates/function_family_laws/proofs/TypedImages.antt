-- Typed maps carry typing. Of a map what counts are the images of the source's constants; that their translated classes are well typed
-- follows by the order of declarations.
use Rattle.std.proofs.Common.{◌≡◌, ℕ, zero, suc, ◌+◌, ◌≤◌, [], ◌∷◌, length, length-append, Some, refl, sym, ap, ◌∙◌, subst, subst₂, arith}
use Rattle.lf_meaning.specs.Terms.{Constant, Object, Lam, At, Var, Con, App, Family, Pi, AtFamily, FamilyCon, FamilyApp, Kind, Ty, PiKind, Context, SimpleContext, with_domains, domain_count}
use Rattle.lf_meaning.specs.Erasure.{erase, erase_context}
use Rattle.lf_meaning.specs.Signatures.{Class, FamilyClass, KindClass, Value, SameAs, TermValue, FamilyValue, Signature, class_of}
use Rattle.lf_meaning.specs.Judgements.{Checks, IsFamily, IsKind, IsContext, IsSignature, IsClass, IsDeclaration, IsTyping, Fits}
use Rattle.lf_meaning.specs.HeadMaps.{Image, HeadMap, image_of}
use Rattle.lf_term_laws.proofs.Declarations.{undefined_is}
use Rattle.lf_typing.proofs.Declared.{declared_as, found_in, class_more}
use Rattle.lf_typing.proofs.Growing.{signature_shrinks}
use Rattle.translation_meaning.specs.Translation.{object_value, family_value, same_image}
use Rattle.translation_typing.proofs.Laws.{placed}
use Rattle.function_family_laws.specs.TypedFunctionMaps.{IsTypedFunctionMap}
use Rattle.translation_typing.specs.FamilyHeads.{OnSpine, UnderBinders}
use Rattle.translation_meaning.specs.FunctionFamilies.{typed_value, typed_image, partial_value, partial_image, bases_along, objects_along, families_along, translate_object, translate_family, translate_kind, translate_class, translate_value, translate_context, erased_domains}
use Rattle.eta_laws.proofs.IdentityTyping.{eta_checks}
use Rattle.function_family_laws.proofs.ErasedTerms.{erases_to_image_type, erased_domains_are}
use Rattle.function_family_laws.proofs.CarriedTyping.{PartialIs, TypedIs, AreTypedImages, checks_translated, family_translated, kind_translated, context_translated}

-- the image of a constant has its translated class and a value that fits it
pub record TypedImage (to : Signature) (along : HeadMap) (c : Constant) (class : Class) : Type 0 where
  pub image : Image
  pub mapped : image_of along c ≡ Some image
  pub class_is : image.class ≡ translate_class along class
  pub fits : Fits to image.value image.class

abbrev pub Images : Signature → Signature → HeadMap → Type 0
Images from to along = (c : Constant) (class : Class) → class_of from c ≡ Some class → TypedImage to along c class

-- those of a typed map, place by place
pub images_of_map : (from to : Signature) (along : HeadMap) → IsTypedFunctionMap from to along → Images from to along
images_of_map from to along typed c class h =
    let d = declared_as from c class h in
    let p = placed from c d.declaration d.found in
    let t = typed p.place d.declaration p.found in
    let same : d.declaration.class ≡ class = undefined_is d.declaration.value d.declaration.class class d.classified in
    record { image = t.image; mapped = ap (image_of along) (sym p.name) ∙ t.mapped; class_is = t.class ∙ ap (translate_class along) same; fits = t.fits }

module _ (to : Signature) (target : IsSignature to) (along : HeadMap) where
  typed_value_is : (c : Constant) (a : Family) (v : Value) → IsFamily to [] a → Fits to v (FamilyClass a) → TypedIs to [] a (typed_value c (FamilyClass a) v)
  typed_value_is c a (SameAs d) is h = record { type_is = refl; checks = eta_checks to target [] tt (Con d) a h; family_is = is }
  typed_value_is c a (TermValue m) is h = record { type_is = refl; checks = h; family_is = is }
  typed_value_is c a (FamilyValue n body) is h = absurd h

  partial_value_is : (c : Constant) (k : Kind) (v : Value) → IsKind to [] k → Fits to v (KindClass k) → PartialIs to [] k (partial_value c (KindClass k) v)
  partial_value_is c k (SameAs d) is h = record { kind_is = refl; family_typed = OnSpine (FamilyCon d) refl refl h; is_kind = is }
  partial_value_is c k (TermValue m) is h = absurd h
  partial_value_is c k (FamilyValue n body) is h = record { kind_is = refl; family_typed = UnderBinders h.0 h.1; is_kind = is }

  images_typed_of : (from : Signature) → Images from to along → ((c : Constant) (class : Class) → class_of from c ≡ Some class → IsClass to (translate_class along class)) → AreTypedImages (objects_along along) (families_along along) (bases_along along) from to
  images_typed_of from images classes = record {
    erased = λ c. erases_to_image_type c (image_of along c);
    objects_typed = λ c a h.
        let i = images c (FamilyClass a) h in
        subst (λ o. TypedIs to [] (translate_family along [] a) (typed_image c o)) (sym i.mapped)
        (subst (λ z. TypedIs to [] (translate_family along [] a) (typed_value c z i.image.value)) (sym i.class_is) (typed_value_is c (translate_family along [] a) i.image.value (classes c (FamilyClass a) h) (subst (Fits to i.image.value) i.class_is i.fits)));
    families_typed = λ c k h.
        let i = images c (KindClass k) h in
        subst (λ o. PartialIs to [] (translate_kind along [] k) (partial_image c o)) (sym i.mapped)
        (subst (λ z. PartialIs to [] (translate_kind along [] k) (partial_value c z i.image.value)) (sym i.class_is) (partial_value_is c (translate_kind along [] k) i.image.value (classes c (KindClass k) h) (subst (Fits to i.image.value) i.class_is i.fits)));
  }

  pub class_translated : (from : Signature) → IsSignature from → AreTypedImages (objects_along along) (families_along along) (bases_along along) from to → (class : Class) → IsClass from class → IsClass to (translate_class along class)
  class_translated from source images_typed (FamilyClass a) h = family_translated (objects_along along) (families_along along) (bases_along along) from to images_typed source target [] a tt tt h
  class_translated from source images_typed (KindClass k) h = kind_translated (objects_along along) (families_along along) (bases_along along) from to images_typed source target [] k tt tt h

  -- by the number of declarations
  classes_carried : (n : ℕ) (from : Signature) → length from ≤ n → IsSignature from → Images from to along → (c : Constant) (class : Class) → class_of from c ≡ Some class → IsClass to (translate_class along class)
  classes_carried zero [] low source images c class h = absurd (cc)
  classes_carried zero (d ∷ from) low source images c class h = absurd (omega (arith, low))
  classes_carried (suc n) from low source images c class h =
      let d = declared_as from c class h in
      let f = found_in from c d.declaration d.found in
      let is : IsDeclaration f.before d.declaration = source f.before d.declaration f.after f.split in
      let class_is : IsClass f.before class = subst (IsClass f.before) (undefined_is d.declaration.value d.declaration.class class d.classified) is.class_is in
      let before_is : IsSignature f.before = signature_shrinks f.before (d.declaration ∷ f.after) (subst IsSignature f.split source) in
      let there : (x : Constant) (k : Class) → class_of f.before x ≡ Some k → class_of from x ≡ Some k = (λ x k e. subst (λ z. class_of z x ≡ Some k) (sym f.split) (class_more f.before (d.declaration ∷ f.after) x k e)) in
      let known : Images f.before to along = (λ x k e. images x k (there x k e)) in
      let count : length from ≡ length f.before + suc (length f.after) = ap length f.split ∙ length-append f.before (d.declaration ∷ f.after) in
      class_translated f.before before_is (images_typed_of f.before known (classes_carried n f.before (omega (arith, low, count)) before_is known)) class class_is

  module _ (from : Signature) (source : IsSignature from) (images : Images from to along) where
    pub images_typed : AreTypedImages (objects_along along) (families_along along) (bases_along along) from to
    images_typed = images_typed_of from images (classes_carried (length from) from (omega arith) source images)

    -- a typing judgement of the source is carried to one of the target
    pub typing_carried : (context : Context) (m : Object) (a : Family) → IsTyping from context m a
        → IsTyping to (translate_context along context) (translate_object along (erase_context (translate_context along context)) m (erase (translate_family along (erase_context (translate_context along context)) a))) (translate_family along (erase_context (translate_context along context)) a)
    typing_carried context m a h =
        let c = context_translated (objects_along along) (families_along along) (bases_along along) from to images_typed source target context h.context_is in
        let f = family_translated (objects_along along) (families_along along) (bases_along along) from to images_typed source target context a h.context_is c h.family_is in
        record { context_is = c; family_is = f; object_checks = checks_translated (objects_along along) (families_along along) (bases_along along) from to images_typed source target context m a h.context_is c h.family_is f h.object_checks }

    -- ---- values

    object_value_fits : (m : Object) (a : Family) → Checks to [] m a → Fits to (object_value m) (FamilyClass a)
    object_value_fits (Lam b) a h = h
    object_value_fits (At (Var i)) a h = h
    object_value_fits (At (Con d)) (AtFamily p) h = h
    object_value_fits (At (Con d)) (Pi x y) h = absurd h
    object_value_fits (At (App r m)) a h = h

    family_value_fits : (n : ℕ) (body : Family) (k : Kind) → n ≡ domain_count k → IsFamily to (with_domains k []) body → Fits to (family_value n body) (KindClass k)
    family_value_fits zero (Pi a b) k e h = (e, h)
    family_value_fits zero (AtFamily (FamilyCon c)) Ty e h = h
    family_value_fits zero (AtFamily (FamilyCon c)) (PiKind a k) e h = absurd (omega (arith, e))
    family_value_fits zero (AtFamily (FamilyApp p m)) k e h = (e, h)
    family_value_fits (suc n) body k e h = (e, h)

    pub count_carried : (E : SimpleContext) (k : Kind) → domain_count k ≡ domain_count (translate_kind along E k)
    count_carried E Ty = refl
    count_carried E (PiKind a k) = ap suc (count_carried (erase (translate_family along E a) ∷ E) k)

    pub domains_carried : (k : Kind) (context : Context) → translate_context along (with_domains k context) ≡ with_domains (translate_kind along (erase_context (translate_context along context)) k) (translate_context along context)
    domains_carried Ty context = refl
    domains_carried (PiKind a k) context = domains_carried k (a ∷ context)

    domains_are : (k : Kind) (context : Context) → IsContext from context → IsKind from context k → IsContext from (with_domains k context)
    domains_are Ty context c h = c
    domains_are (PiKind a k) context c h = domains_are k (a ∷ context) (c, h.0) h.1

    pub value_carried : (class : Class) (value : Value) → IsClass from class → Fits from value class → Fits to (translate_value along (translate_class along class) value) (translate_class along class)
    value_carried class (SameAs c) is h =
        let i = images c class h in
        subst (λ o. Fits to (same_image c o) (translate_class along class)) (sym i.mapped) (subst (Fits to i.image.value) i.class_is i.fits)
    value_carried (FamilyClass a) (TermValue m) is h =
        object_value_fits (translate_object along [] m (erase (translate_family along [] a))) (translate_family along [] a) (typing_carried [] m a (record { context_is = tt; family_is = is; object_checks = h })).object_checks
    value_carried (KindClass k) (TermValue m) is h = absurd h
    value_carried (FamilyClass a) (FamilyValue n body) is h = absurd h
    value_carried (KindClass k) (FamilyValue n body) is h =
        let k' : Kind = translate_kind along [] k in
        let context : Context = with_domains k [] in
        let c : IsContext from context = domains_are k [] tt is in
        let there = context_translated (objects_along along) (families_along along) (bases_along along) from to images_typed source target context c in
        let body_is = family_translated (objects_along along) (families_along along) (bases_along along) from to images_typed source target context body c there h.1 in
        let same : translate_context along context ≡ with_domains k' [] = domains_carried k [] in
        family_value_fits n (translate_family along (erased_domains k' []) body) k' (h.0 ∙ count_carried [] k)
        (subst₂ (λ z w. IsFamily to z (translate_family along w body)) same (ap erase_context same ∙ erased_domains_are k' []) body_is)
