-- Typed maps carry typing. Of a map what counts are the images of the source's constants; that their translated classes are
-- well typed follows by the order of declarations.
use Rattle.std.proofs.Common.{◌≡◌, ℕ, zero, suc, ◌+◌, ◌≤◌, [], ◌∷◌, ◌++◌, length, length-append, Bool, true, false, cond, Some, refl, sym, ap, ap₂, ◌∙◌, subst, subst₂, arith}
use Rattle.std.specs.Prelude.{slice_get}
use Rattle.lf_meaning.specs.Terms.{Constant, Object, Atomic, Family, AtomicFamily, Kind, Context, Simple, SimpleContext}
use Rattle.lf_meaning.specs.Erasure.{erase, erase_context}
use Rattle.lf_meaning.specs.Raising.{raise, raise_family, raise_kind}
use Rattle.lf_meaning.specs.Substitution.{substitute, substitute_family, substitute_kind}
use Rattle.lf_meaning.specs.Sorts.{HasSort, sorts_of}
use Rattle.lf_meaning.specs.Signatures.{Class, Value, Declaration, Signature, same_constant, declaration_of, class_of}
use Rattle.lf_meaning.specs.Judgements.{Checks, Synthesises, SynthesisesKind, IsFamily, IsKind, IsContext, IsSignature, IsClass, IsDeclaration, Fits}
use Rattle.lf_term_laws.proofs.Equality.{same_constant_sound}
use Rattle.lf_typing.proofs.Declared.{declared_as, found_in, class_more}
use Rattle.lf_typing.proofs.Closed.{class_is_class}
use Rattle.lf_typing.proofs.Growing.{signature_shrinks}
use Rattle.lf_typing.proofs.Typed.{checks_sort, synthesises_sort}
use Rattle.lf_typing.proofs.HeadTyping.{synthesised_is_family, synthesised_is_kind, HeadedHas}
use Rattle.lf_meaning.specs.Replacement.{replace_head, of_constants}
use Rattle.lf_typing.proofs.Regular.{erase_split, length_erased}
use Rattle.lf_meaning.specs.HeadMaps.{HeadMap, image_of}
use Rattle.translation_meaning.specs.Translation.{translate_object, translate_head, translate_family, translate_kind, translate_class, translate_value}
use Rattle.translation_meaning.specs.TypedMaps.{IsTypedMap}
use Rattle.translation_typing.specs.TypedTranslation.{BodiesAreAtomicOver, translate_context, IsTypedTranslation, TypingIsCarried, ContextsAreCarried, FamiliesAreCarried, KindsAreCarried, ClassesAreCarried, ValuesAreCarried, RaisedObjectsAreTranslated, RaisedFamiliesAreTranslated, RaisedKindsAreTranslated, SubstitutedObjectsAreTranslated, SubstitutedFamiliesAreTranslated, SubstitutedKindsAreTranslated}
use Rattle.translation_typing.specs.KindedFamilies.{domains_of, IsKinded, IsKindedKind}
use Rattle.translation_typing.proofs.Kinded.{kind_has_domains, family_kinded, kind_kinded}
use Rattle.translation_typing.proofs.Known.{AtomicKnown, HeadKnown, atomic_known, head_known, object_known, family_known, kind_known, raised_object_known, raised_family_known, raised_kind_known, substituted_object_known, substituted_family_known, substituted_kind_known}
use Rattle.translation_typing.proofs.Bases.{renamed, erase_translated}
use Rattle.translation_typing.proofs.Commuting.{raise_translated, raise_family_translated, raise_kind_translated, substitute_translated, substitute_family_translated, substitute_kind_translated}
use Rattle.translation_typing.proofs.Images.{TypedImage, IsMap, by_images}
use Rattle.translation_typing.proofs.TypedHeads.{HeadIs}
use Rattle.translation_typing.proofs.Restricted.{restrict, restricted_there, restricted_declared}
use Rattle.translation_typing.proofs.Agreeing.{replace_head_agrees, head_agrees, class_agrees, context_agrees, object_agrees, family_agrees, kind_agrees, checked_agrees, typed_family_agrees, typed_kind_agrees, value_agrees}
use Rattle.translation_typing.proofs.Carrying.{synthesises_translated, head_translated, class_translated, context_translated, family_translated, kind_translated, checks_translated, value_translated}
use Rattle.std.proofs.lemmas.Option.{same_Some}
use Rattle.lf_term_laws.proofs.Declarations.{undefined_is, AgreeOn}

-- ---- images of a typed map

pub record Placed (sig : Signature) (c : Constant) (d : Declaration) : Type 0 where
  pub place : ℕ
  pub found : slice_get sig place ≡ Some d
  pub name : d.name ≡ c

placed_by : (b : Bool) (e d : Declaration) (sig : Signature) (c : Constant) → same_constant e.name c ≡ b → (declaration_of sig c ≡ Some d → Placed sig c d) → cond b (Some e) (declaration_of sig c) ≡ Some d → Placed (e ∷ sig) c d
placed_by true e d sig c f rest h = let same : e ≡ d = same_Some _ _ h in record { place = zero; found = h; name = ap (λ (z : Declaration). z.name) (sym same) ∙ same_constant_sound e.name c f }
placed_by false e d sig c f rest h = let p = rest h in record { place = suc p.place; found = p.found; name = p.name }

pub placed : (sig : Signature) (c : Constant) (d : Declaration) → declaration_of sig c ≡ Some d → Placed sig c d
placed [] c d h = absurd (cc)
placed (e ∷ sig) c d h = placed_by (same_constant e.name c) e d sig c refl (placed sig c d) h

abbrev pub Images : Signature → Signature → HeadMap → Type 0
Images from to along = (c : Constant) (class : Class) → class_of from c ≡ Some class → TypedImage to along c class

pub typed_images : (from to : Signature) (along : HeadMap) → IsTypedMap from to along → Images from to along
typed_images from to along typed c class h =
    let d = declared_as from c class h in
    let p = placed from c d.declaration d.found in
    let t = typed p.place d.declaration p.found in
    let same : d.declaration.class ≡ class = undefined_is d.declaration.value d.declaration.class class d.classified in
    record { image = t.image; mapped = ap (image_of along) (sym p.name) ∙ t.mapped; class_is = t.class ∙ ap (translate_class along) same; fits = t.fits }

-- ---- the restricted map

module _ (to : Signature) (along : HeadMap) (target : IsSignature to) where
  restricted_agrees : (from : Signature) → AgreeOn from (restrict from along) along
  restricted_agrees from c class h = restricted_there from c along class h

  restricted_map : (from : Signature) → IsSignature from → BodiesAreAtomicOver from along → Images from to along → ((c : Constant) (class : Class) → class_of from c ≡ Some class → IsClass to (translate_class along class)) → IsMap from to (restrict from along)
  restricted_map from source atomic images classes = record {
    atomic = λ c image e. let d = restricted_declared from c along image e in atomic c d.0 image d.1 (sym (restricted_there from c along d.0 d.1) ∙ e);
    images = λ c class h.
        let i = images c class h in
        record {
          image = i.image;
          mapped = restricted_there from c along class h ∙ i.mapped;
          class_is = i.class_is ∙ sym (class_agrees from (restrict from along) along (restricted_agrees from) class (class_is_class from source c class h));
          fits = i.fits;
        };
    classes = λ c class h. subst (IsClass to) (sym (class_agrees from (restrict from along) along (restricted_agrees from) class (class_is_class from source c class h))) (classes c class h);
    declared = λ c image e. restricted_declared from c along image e;
  }

  -- by the number of declarations
  classes_carried : (n : ℕ) (from : Signature) → length from ≤ n → IsSignature from → BodiesAreAtomicOver from along → Images from to along → (c : Constant) (class : Class) → class_of from c ≡ Some class → IsClass to (translate_class along class)
  classes_carried zero [] low source atomic images c class h = absurd (cc)
  classes_carried zero (d ∷ from) low source atomic images c class h = absurd (omega (arith, low))
  classes_carried (suc n) from low source atomic images c class h =
      let d = declared_as from c class h in
      let f = found_in from c d.declaration d.found in
      let is : IsDeclaration f.before d.declaration = source f.before d.declaration f.after f.split in
      let class_is : IsClass f.before class = subst (IsClass f.before) (undefined_is d.declaration.value d.declaration.class class d.classified) is.class_is in
      let before_is : IsSignature f.before = signature_shrinks f.before (d.declaration ∷ f.after) (subst IsSignature f.split source) in
      let there : (x : Constant) (k : Class) → class_of f.before x ≡ Some k → class_of from x ≡ Some k = (λ x k e. subst (λ z. class_of z x ≡ Some k) (sym f.split) (class_more f.before (d.declaration ∷ f.after) x k e)) in
      let known : Images f.before to along = (λ x k e. images x k (there x k e)) in
      let bodies : BodiesAreAtomicOver f.before along = (λ x k image e g. atomic x k image (there x k e) g) in
      let count : length from ≡ length f.before + suc (length f.after) = ap length f.split ∙ length-append f.before (d.declaration ∷ f.after) in
      let map : IsMap f.before to (restrict f.before along) = restricted_map f.before before_is bodies known (classes_carried n f.before (omega (arith, low, count)) before_is bodies known) in
      subst (IsClass to) (class_agrees f.before (restrict f.before along) along (restricted_agrees f.before) class class_is)
      (class_translated f.before to (restrict f.before along) before_is target map class class_is)

-- ---- laws

module _ (from to : Signature) (along : HeadMap) (is : IsTypedTranslation from to along) where
  abbrev within : HeadMap
  within = restrict from along

  images : Images from to along
  images = typed_images from to along is.typed

  map_is : IsMap from to within
  map_is = restricted_map to along is.target from is.source is.atomic images (classes_carried to along is.target (length from) from (omega arith) is.source is.atomic images)

  agrees : AgreeOn from within along
  agrees = restricted_agrees to along is.target from

  pub context_carried : (context : Context) → IsContext from context → IsContext to (translate_context along context)
  context_carried context c = subst (IsContext to) (context_agrees from within along agrees context c) (context_translated from to within is.source is.target map_is context c)

  pub family_carried : (context : Context) (a : Family) → IsContext from context → IsFamily from context a → IsFamily to (translate_context along context) (translate_family along a)
  family_carried context a c h =
      subst₂ (IsFamily to) (context_agrees from within along agrees context c) (typed_family_agrees from within along agrees context a h)
      (family_translated from to within is.source is.target map_is context a c (context_translated from to within is.source is.target map_is context c) h)

  pub kind_carried : (context : Context) (k : Kind) → IsContext from context → IsKind from context k → IsKind to (translate_context along context) (translate_kind along k)
  kind_carried context k c h =
      subst₂ (IsKind to) (context_agrees from within along agrees context c) (typed_kind_agrees from within along agrees context k h)
      (kind_translated from to within is.source is.target map_is context k c (context_translated from to within is.source is.target map_is context c) h)

  pub class_carried : (class : Class) → IsClass from class → IsClass to (translate_class along class)
  class_carried class h = subst (IsClass to) (class_agrees from within along agrees class h) (class_translated from to within is.source is.target map_is class h)

  pub value_carried : (class : Class) (value : Value) → IsClass from class → Fits from value class → Fits to (translate_value along value) (translate_class along class)
  value_carried class value h g =
      subst₂ (Fits to) (value_agrees from within along agrees class value g) (class_agrees from within along agrees class h)
      (value_translated from to within is.source is.target map_is class value h g)

  pub object_carried : (context : Context) (m : Object) (a : Family) → IsContext from context → IsFamily from context a → Checks from context m a → Checks to (translate_context along context) (translate_object along m) (translate_family along a)
  object_carried context m a c f h =
      let there : IsContext to (translate_context within context) = context_translated from to within is.source is.target map_is context c in
      let at : Checks to (translate_context within context) (translate_object within m) (translate_family within a) =
      checks_translated from to within is.source is.target map_is context m a c there f (family_translated from to within is.source is.target map_is context a c there f) h in
      subst (λ z. Checks to z (translate_object along m) (translate_family along a)) (context_agrees from within along agrees context c)
      (subst₂ (Checks to (translate_context within context)) (checked_agrees from within along agrees context m a h) (typed_family_agrees from within along agrees context a f) at)

  -- heads, of objects and of families
  pub atomic_carried : (context : Context) (r : Atomic) (a : Family) → IsContext from context → Synthesises from context r a → HeadedHas to (translate_context along context) (replace_head (of_constants (by_images along)) 0 r) (translate_family along a)
  atomic_carried context r a c h =
      let there : IsContext to (translate_context within context) = context_translated from to within is.source is.target map_is context c in
      let known : AtomicKnown from r = atomic_known from (erase_context context) r (erase a) (synthesises_sort from context r a h) in
      subst (λ z. HeadedHas to z (replace_head (of_constants (by_images along)) 0 r) (translate_family along a)) (context_agrees from within along agrees context c)
      (subst₂ (HeadedHas to (translate_context within context)) (replace_head_agrees from within along agrees 0 r known) (typed_family_agrees from within along agrees context a (synthesised_is_family from is.source context r a c h))
      (synthesises_translated from to within is.source is.target map_is context r a c there h).0)

  pub head_carried : (context : Context) (p : AtomicFamily) (k : Kind) → IsContext from context → SynthesisesKind from context p k → HeadIs to (translate_context along context) (translate_kind along k) (translate_head along p)
  head_carried context p k c h =
      let there : IsContext to (translate_context within context) = context_translated from to within is.source is.target map_is context c in
      let known : HeadKnown from p = head_known from (erase_context context) p (domains_of k) (kind_has_domains from context p k h) in
      subst (λ z. HeadIs to z (translate_kind along k) (translate_head along p)) (context_agrees from within along agrees context c)
      (subst₂ (HeadIs to (translate_context within context)) (typed_kind_agrees from within along agrees context k (synthesised_is_kind from is.source context p k c h)) (head_agrees from within along agrees p known)
      (head_translated from to within is.source is.target map_is context p k c there h))

pub typing_is_carried : TypingIsCarried
typing_is_carried from to along context m a is h =
    record {
      context_is = context_carried from to along is context h.context_is;
      family_is = family_carried from to along is context a h.context_is h.family_is;
      object_checks = object_carried from to along is context m a h.context_is h.family_is h.object_checks;
    }

pub contexts_are_carried : ContextsAreCarried
contexts_are_carried from to along context is h = context_carried from to along is context h

pub families_are_carried : FamiliesAreCarried
families_are_carried from to along context a is c h = family_carried from to along is context a c h

pub kinds_are_carried : KindsAreCarried
kinds_are_carried from to along context k is c h = kind_carried from to along is context k c h

pub classes_are_carried : ClassesAreCarried
classes_are_carried from to along class is h = class_carried from to along is class h

pub values_are_carried : ValuesAreCarried
values_are_carried from to along class value is h g = value_carried from to along is class value h g

-- ---- raising and substitution

module _ (from to : Signature) (along : HeadMap) (is : IsTypedTranslation from to along) where
  abbrev inner : HeadMap
  inner = restrict from along

  same : AgreeOn from inner along
  same = agrees from to along is

  inner_is : IsMap from to inner
  inner_is = map_is from to along is

  pub raised_object : (context : Context) (m : Object) (a : Family) (by at : ℕ) → Checks from context m a → translate_object along (raise by at m) ≡ raise by at (translate_object along m)
  raised_object context m a by at h =
      sym (object_agrees from inner along same (raise by at m) (raised_object_known from by at m (object_known from (erase_context context) m (erase a) (checks_sort from context m a h))))
      ∙ raise_translated from to inner inner_is by at m
      ∙ ap (raise by at) (checked_agrees from inner along same context m a h)

  pub raised_family : (context : Context) (a : Family) (by at : ℕ) → IsFamily from context a → translate_family along (raise_family by at a) ≡ raise_family by at (translate_family along a)
  raised_family context a by at h =
      let kinded : IsKinded from (erase_context context) a = family_kinded from context a h in
      sym (family_agrees from inner along same (raise_family by at a) (raised_family_known from by at a (family_known from (erase_context context) a kinded)))
      ∙ raise_family_translated from to inner inner_is by at (erase_context context) a kinded
      ∙ ap (raise_family by at) (typed_family_agrees from inner along same context a h)

  pub raised_kind : (context : Context) (k : Kind) (by at : ℕ) → IsKind from context k → translate_kind along (raise_kind by at k) ≡ raise_kind by at (translate_kind along k)
  raised_kind context k by at h =
      let kinded : IsKindedKind from (erase_context context) k = kind_kinded from context k h in
      sym (kind_agrees from inner along same (raise_kind by at k) (raised_kind_known from by at k (kind_known from (erase_context context) k kinded)))
      ∙ raise_kind_translated from to inner inner_is by at (erase_context context) k kinded
      ∙ ap (raise_kind by at) (typed_kind_agrees from inner along same context k h)

  module _ (after before : Context) (v : Object) (of : Family) (of_is : IsFamily from before of) (value : Checks from before v of) where
    abbrev behind : SimpleContext
    behind = erase_context before

    abbrev inside : SimpleContext
    inside = erase_context after

    abbrev type : Simple
    type = erase of

    sorted : HasSort (sorts_of from) behind v type
    sorted = checks_sort from before v of value

    whole : erase_context (after ++ (of ∷ before)) ≡ inside ++ (type ∷ behind)
    whole = erase_split after before of type refl

    depth : length inside ≡ length after
    depth = length_erased after

    renamed_type : renamed inner type ≡ erase (translate_family along of)
    renamed_type = sym (erase_translated inner inner_is.atomic of) ∙ ap erase (typed_family_agrees from inner along same before of of_is)

    pub substituted_object : (m : Object) (a : Family) → Checks from (after ++ (of ∷ before)) m a
        → translate_object along (substitute v type (length after) m) ≡ substitute (translate_object along v) (erase (translate_family along of)) (length after) (translate_object along m)
    substituted_object m a h =
        let has : HasSort (sorts_of from) (inside ++ (type ∷ behind)) m (erase a) = subst (λ z. HasSort (sorts_of from) z m (erase a)) whole (checks_sort from (after ++ (of ∷ before)) m a h) in
        subst (λ n. translate_object along (substitute v type n m) ≡ substitute (translate_object along v) (erase (translate_family along of)) n (translate_object along m)) depth
        (sym (object_agrees from inner along same (substitute v type (length inside) m) (substituted_object_known from behind v type sorted inside m (erase a) has))
        ∙ substitute_translated from to inner inner_is behind v type sorted inside m (erase a) has
        ∙ ap₂ (λ w s. substitute w s (length inside) (translate_object inner m)) (checked_agrees from inner along same before v of value) renamed_type
        ∙ ap (substitute (translate_object along v) (erase (translate_family along of)) (length inside)) (checked_agrees from inner along same (after ++ (of ∷ before)) m a h))

    pub substituted_family : (a : Family) → IsFamily from (after ++ (of ∷ before)) a
        → translate_family along (substitute_family v type (length after) a) ≡ substitute_family (translate_object along v) (erase (translate_family along of)) (length after) (translate_family along a)
    substituted_family a h =
        let kinded : IsKinded from (inside ++ (type ∷ behind)) a = subst (λ z. IsKinded from z a) whole (family_kinded from (after ++ (of ∷ before)) a h) in
        subst (λ n. translate_family along (substitute_family v type n a) ≡ substitute_family (translate_object along v) (erase (translate_family along of)) n (translate_family along a)) depth
        (sym (family_agrees from inner along same (substitute_family v type (length inside) a) (substituted_family_known from behind v type sorted inside a kinded))
        ∙ substitute_family_translated from to inner inner_is behind v type sorted inside a kinded
        ∙ ap₂ (λ w s. substitute_family w s (length inside) (translate_family inner a)) (checked_agrees from inner along same before v of value) renamed_type
        ∙ ap (substitute_family (translate_object along v) (erase (translate_family along of)) (length inside)) (typed_family_agrees from inner along same (after ++ (of ∷ before)) a h))

    pub substituted_kind : (k : Kind) → IsKind from (after ++ (of ∷ before)) k
        → translate_kind along (substitute_kind v type (length after) k) ≡ substitute_kind (translate_object along v) (erase (translate_family along of)) (length after) (translate_kind along k)
    substituted_kind k h =
        let kinded : IsKindedKind from (inside ++ (type ∷ behind)) k = subst (λ z. IsKindedKind from z k) whole (kind_kinded from (after ++ (of ∷ before)) k h) in
        subst (λ n. translate_kind along (substitute_kind v type n k) ≡ substitute_kind (translate_object along v) (erase (translate_family along of)) n (translate_kind along k)) depth
        (sym (kind_agrees from inner along same (substitute_kind v type (length inside) k) (substituted_kind_known from behind v type sorted inside k kinded))
        ∙ substitute_kind_translated from to inner inner_is behind v type sorted inside k kinded
        ∙ ap₂ (λ w s. substitute_kind w s (length inside) (translate_kind inner k)) (checked_agrees from inner along same before v of value) renamed_type
        ∙ ap (substitute_kind (translate_object along v) (erase (translate_family along of)) (length inside)) (typed_kind_agrees from inner along same (after ++ (of ∷ before)) k h))

pub raised_objects_are_translated : RaisedObjectsAreTranslated
raised_objects_are_translated from to along context m a by at is h = raised_object from to along is context m a by at h

pub raised_families_are_translated : RaisedFamiliesAreTranslated
raised_families_are_translated from to along context a by at is h = raised_family from to along is context a by at h

pub raised_kinds_are_translated : RaisedKindsAreTranslated
raised_kinds_are_translated from to along context k by at is h = raised_kind from to along is context k by at h

pub substituted_objects_are_translated : SubstitutedObjectsAreTranslated
substituted_objects_are_translated from to along after before v m of a is f g h = substituted_object from to along is after before v of f g m a h

pub substituted_families_are_translated : SubstitutedFamiliesAreTranslated
substituted_families_are_translated from to along after before v of a is f g h = substituted_family from to along is after before v of f g a h

pub substituted_kinds_are_translated : SubstitutedKindsAreTranslated
substituted_kinds_are_translated from to along after before v of k is f g h = substituted_kind from to along is after before v of f g k h
