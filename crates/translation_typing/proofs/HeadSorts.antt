-- Translated heads of families: what is left of them is well sorted, and has the domains of the kind, with other names for bases.
use Rattle.std.proofs.Common.{◌≡◌, ℕ, zero, suc, List, [], ◌∷◌, ◌++◌, length, map, Option, Some, None, refl, sym, ap, ap₂, ◌∙◌, subst, arith}
use Rattle.lf_meaning.specs.Terms.{Constant, Object, Pi, AtFamily, AtomicFamily, FamilyCon, FamilyApp, Kind, Ty, PiKind, Simple, SimpleContext, with_domains}
use Rattle.lf_meaning.specs.Erasure.{erase}
use Rattle.lf_meaning.specs.Substitution.{substitute, substitute_family, substitute_kind}
use Rattle.lf_meaning.specs.Signatures.{Class, FamilyClass, KindClass, Value, SameAs, TermValue, FamilyValue, Signature, class_of}
use Rattle.lf_meaning.specs.Judgements.{IsKind, Fits}
use Rattle.lf_meaning.specs.Sorts.{HasSort, IsSortedFamily, IsSortedAtomicFamily, IsSortedKind, sorts_of}
use Rattle.lf_substitution_laws.proofs.SortedFamilies.{substitute_keeps_sorted, substitute_keeps_sorted_kind, more_sorted_atomic_family, more_sorted_kind}
use Rattle.lf_substitution_laws.proofs.Constants.{constants_keep_sort}
use Rattle.lf_typing.proofs.Typed.{family_sorted, kind_sorted}
use Rattle.translation_meaning.specs.Heads.{Head, ObjectHead, FamilyHead, head_takes}
use Rattle.lf_meaning.specs.HeadMaps.{HeadMap, image_of}
use Rattle.translation_meaning.specs.Translation.{family_image, family_head_image, translate_object, translate_head, translate_kind}
use Rattle.translation_typing.specs.AtomicBodies.{HasAtomicBody}
use Rattle.translation_typing.specs.KindedFamilies.{class_domains, domains_of, HasDomains}
use Rattle.translation_typing.proofs.KindDomains.{domains_of_map, domains_of_length, with_simples, simples_append, simples_length, simples_erased}
use Rattle.translation_typing.proofs.Bases.{bases, renamed, erase_translated}
use Rattle.translation_typing.proofs.Images.{IsMap, by_images, sorted_map}
use Rattle.std.proofs.lemmas.Option.{same_Some}
use Rattle.list_laws.proofs.Lists.{first_same, rest_same}

-- arguments go on the spine, or for the binders, of which there are as many as domains
pub data BodyFits (sig : Signature) (context : SimpleContext) (rest : List Simple) (binders : ℕ) (p : AtomicFamily) : Type 0 where
  OnSpine : binders ≡ zero → IsSortedAtomicFamily (sorts_of sig) context p → BodyFits sig context rest binders p
  ForBinders : binders ≡ length rest → IsSortedAtomicFamily (sorts_of sig) (with_simples rest context) p → BodyFits sig context rest binders p

abbrev pub HeadFits : Signature → SimpleContext → List Simple → Head → Type 0
HeadFits sig context rest (ObjectHead object classifier) = ⊥
HeadFits sig context rest (FamilyHead binders (Pi a b) kind) = ⊥
HeadFits sig context rest (FamilyHead binders (AtFamily p) kind) = (domains_of kind ≡ rest) × IsSortedKind (sorts_of sig) context kind × BodyFits sig context rest binders p

module _ (sig : Signature) (context : SimpleContext) where
  -- the outermost binder is taken
  body_taken : (m : Object) (s : Simple) (rest : List Simple) (binders : ℕ) (p : AtomicFamily) → HasSort (sorts_of sig) context m s → binders ≡ length rest → IsSortedAtomicFamily (sorts_of sig) (with_simples (s ∷ rest) context) p
      → IsSortedFamily (sorts_of sig) (with_simples rest context) (substitute_family m s binders (AtFamily p))
  body_taken m s rest binders p g e h =
      let whole : with_simples rest (s ∷ context) ≡ with_simples rest [] ++ (s ∷ context) = simples_append rest [] (s ∷ context) in
      let count : length (with_simples rest []) ≡ binders = simples_length rest [] ∙ omega (arith, e) in
      let body = substitute_keeps_sorted (sorts_of sig) m s context g (with_simples rest []) (AtFamily p) (subst (λ z. IsSortedAtomicFamily (sorts_of sig) z p) whole h) in
      subst (λ z. IsSortedFamily (sorts_of sig) z (substitute_family m s binders (AtFamily p))) (sym (simples_append rest [] context))
      (subst (λ n. IsSortedFamily (sorts_of sig) (with_simples rest [] ++ context) (substitute_family m s n (AtFamily p))) count body)

  pub fits_taken : (head : Head) (m : Object) (s : Simple) (rest : List Simple) → HeadFits sig context (s ∷ rest) head → HasSort (sorts_of sig) context m s → HeadFits sig context rest (head_takes head m)
  fits_taken (ObjectHead object classifier) m s rest h g = absurd h
  fits_taken (FamilyHead binders (Pi a b) kind) m s rest h g = absurd h
  fits_taken (FamilyHead binders (AtFamily p) Ty) m s rest h g = absurd (let e = h.0 in cc)
  fits_taken (FamilyHead binders (AtFamily p) (PiKind a k)) m s rest h g = by binders h.2
    where
      domain : erase a ≡ s
      domain = first_same h.0

      argument : HasSort (sorts_of sig) context m (erase a)
      argument = subst (HasSort (sorts_of sig) context m) (sym domain) g

      left : domains_of (substitute_kind m (erase a) 0 k) ≡ rest
      left = domains_of_map (substitute m (erase a)) 0 k ∙ rest_same h.0

      kind_left : IsSortedKind (sorts_of sig) context (substitute_kind m (erase a) 0 k)
      kind_left = substitute_keeps_sorted_kind (sorts_of sig) m (erase a) context argument [] k (h.1).1

      by : (n : ℕ) → BodyFits sig context (s ∷ rest) n p → HeadFits sig context rest (head_takes (FamilyHead n (AtFamily p) (PiKind a k)) m)
      by zero (OnSpine e q) = (left, kind_left, OnSpine refl (q, record { sort = s; has = g }))
      by zero (ForBinders e q) = absurd (omega (arith, e))
      by (suc n) (OnSpine e q) = absurd (omega (arith, e))
      by (suc n) (ForBinders e q) =
          let count : n ≡ length rest = omega (arith, e) in
          (left, kind_left, ForBinders count (body_taken m (erase a) rest n p argument count (subst (λ z. IsSortedAtomicFamily (sorts_of sig) (with_simples (z ∷ rest) context) p) (sym domain) q)))

module _ (from to : Signature) (along : HeadMap) (map_is : IsMap from to along) where
  pub kind_domains_translated : (k : Kind) → domains_of (translate_kind along k) ≡ map (renamed along) (domains_of k)
  unfolding translate_kind
  kind_domains_translated Ty = refl
  kind_domains_translated (PiKind a k) = ap₂ (λ s ss. s ∷ ss) (erase_translated along map_is.atomic a) (kind_domains_translated k)

  image_fits : (context : SimpleContext) (c : Constant) (k : Kind) (value : Value) → IsKind to [] k → HasAtomicBody value → Fits to value (KindClass k) → HeadFits to context (domains_of k) (family_image c (KindClass k) value)
  image_fits context c k (SameAs d) is a h = (refl, more_sorted_kind (sorts_of to) (sorts_of to) (λ x t e. e) [] context k (kind_sorted to [] k is), OnSpine refl tt)
  image_fits context c k (TermValue m) is a h = absurd h
  image_fits context c k (FamilyValue n (Pi b d)) is a h = absurd a
  image_fits context c k (FamilyValue n (AtFamily p)) is a h =
      let sorted : IsSortedAtomicFamily (sorts_of to) (with_simples (domains_of k) []) p = subst (λ z. IsSortedAtomicFamily (sorts_of to) z p) (simples_erased k []) (family_sorted to (with_domains k []) (AtFamily p) h.1) in (
        refl,
        more_sorted_kind (sorts_of to) (sorts_of to) (λ x t e. e) [] context k (kind_sorted to [] k is),
        ForBinders (h.0 ∙ sym (domains_of_length k)) (subst (λ z. IsSortedAtomicFamily (sorts_of to) z p) (sym (simples_append (domains_of k) [] context)) (more_sorted_atomic_family (sorts_of to) (sorts_of to) (λ x t e. e) (with_simples (domains_of k) []) context p sorted)),
      )

  constant_fits : (context : SimpleContext) (c : Constant) (rest : List Simple) (o : Option Class) → class_of from c ≡ o → class_domains o ≡ Some rest → HeadFits to context (map (renamed along) rest) (family_head_image c (image_of along c))
  constant_fits context c rest None e h = absurd (cc)
  constant_fits context c rest (Some (FamilyClass a)) e h = absurd (cc)
  constant_fits context c rest (Some (KindClass k)) e h =
      let i = map_is.images c (KindClass k) e in
      let is : IsKind to [] (translate_kind along k) = map_is.classes c (KindClass k) e in
      let fits : Fits to i.image.value (KindClass (translate_kind along k)) = subst (Fits to i.image.value) i.class_is i.fits in
      let at : HeadFits to context (domains_of (translate_kind along k)) (family_image c (KindClass (translate_kind along k)) i.image.value) = image_fits context c (translate_kind along k) i.image.value is (map_is.atomic c i.image i.mapped) fits in
      let there : HeadFits to context (domains_of (translate_kind along k)) (family_head_image c (Some i.image)) = subst (λ z. HeadFits to context (domains_of (translate_kind along k)) (family_image c z i.image.value)) (sym i.class_is) at in
      subst (λ ss. HeadFits to context ss (family_head_image c (image_of along c))) (kind_domains_translated k ∙ ap (map (renamed along)) (same_Some _ _ h))
      (subst (λ z. HeadFits to context (domains_of (translate_kind along k)) (family_head_image c z)) (sym i.mapped) there)

  pub object_sorted : (context : SimpleContext) (m : Object) (t : Simple) → HasSort (sorts_of from) context m t → HasSort (sorts_of to) (map (renamed along) context) (translate_object along m) (renamed along t)
  unfolding translate_object
  object_sorted context m t h = constants_keep_sort (by_images along) (bases along) (sorts_of from) (sorts_of to) (sorted_map from to along map_is) context m t h

  pub head_fits : (context : SimpleContext) (p : AtomicFamily) (rest : List Simple) → HasDomains from context p rest → HeadFits to (map (renamed along) context) (map (renamed along) rest) (translate_head along p)
  unfolding translate_head
  head_fits context (FamilyCon c) rest h = constant_fits (map (renamed along) context) c rest (class_of from c) refl h
  head_fits context (FamilyApp p m) rest h =
      fits_taken to (map (renamed along) context) (translate_head along p) (translate_object along m) (renamed along h.domain) (map (renamed along) rest)
      (head_fits context p (h.domain ∷ rest) h.head_has) (object_sorted context m h.domain h.argument_has)

  -- the head of a family constant, in no context
  pub constant_head_fits : (c : Constant) (rest : List Simple) → class_domains (class_of from c) ≡ Some rest → HeadFits to [] (map (renamed along) rest) (translate_head along (FamilyCon c))
  unfolding translate_head
  constant_head_fits c rest h = constant_fits [] c rest (class_of from c) refl h
