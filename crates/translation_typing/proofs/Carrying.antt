-- Typing is carried along a map that has typed images of the constants, and no others.
use Rattle.std.proofs.Common.{◌≡◌, ℕ, zero, suc, [], ◌∷◌, Some, refl, sym, ap, ◌∙◌, subst, arith}
use Rattle.std.specs.Prelude.{slice_get}
use Rattle.lf_meaning.specs.Terms.{Constant, Object, Lam, At, Atomic, Var, Con, App, Family, Pi, AtFamily, AtomicFamily, FamilyCon, FamilyApp, Kind, Ty, PiKind, Context, Base, SimpleContext, with_domains, domain_count}
use Rattle.lf_meaning.specs.Erasure.{erase, erase_context, head_constant}
use Rattle.lf_meaning.specs.Replacement.{Headed, object_of, replace_head, of_constants}
use Rattle.lf_meaning.specs.Substitution.{substitute_family, substitute_kind}
use Rattle.lf_meaning.specs.Signatures.{Class, FamilyClass, KindClass, Value, SameAs, TermValue, FamilyValue, Signature, class_of}
use Rattle.lf_meaning.specs.Judgements.{VariableHas, Checks, Synthesises, SynthesisesKind, IsFamily, IsKind, IsContext, IsSignature, IsClass, Fits}
use Rattle.lf_term_laws.proofs.Lookups.{get_map}
use Rattle.lf_substitution_laws.proofs.Constants.{any_depth}
use Rattle.lf_typing.proofs.Typed.{checks_sort, more_checks, more_family, more_kind}
use Rattle.lf_typing.proofs.HeadTyping.{synthesised_is_family, synthesised_is_kind, HeadedHas, headed_object, headed_takes}
use Rattle.lf_typing.proofs.SubstitutionTyping.{substitute_is_family}
use Rattle.lf_typing.proofs.Regular.{context_sorted}
use Rattle.translation_meaning.specs.Heads.{Head, ObjectHead, FamilyHead, head_takes}
use Rattle.lf_meaning.specs.HeadMaps.{HeadMap, image_of}
use Rattle.translation_meaning.specs.Translation.{object_image, headed_image, family_image, family_head_image, family_of, translate_object, translate_head, translate_family, translate_kind, translate_class, translate_value, object_value, family_value, same_image}
use Rattle.translation_typing.specs.TypedTranslation.{translate_context}
use Rattle.translation_typing.proofs.KindDomains.{domains_append}
use Rattle.translation_typing.specs.KindedFamilies.{IsKinded}
use Rattle.translation_typing.proofs.Kinded.{family_kinded, kind_kinded}
use Rattle.translation_typing.proofs.Bases.{bases, erase_translated}
use Rattle.translation_typing.proofs.Images.{IsMap, by_images}
use Rattle.translation_typing.proofs.Commuting.{raise_family_translated, substitute_family_translated, substitute_kind_translated}
use Rattle.translation_typing.specs.FamilyHeads.{FamilyTyped, OnSpine, UnderBinders}
use Rattle.translation_typing.proofs.TypedHeads.{HeadIs, domains_context, kind_of_body, spine_taken, binder_taken, family_whole}

-- ---- the domains of a translated kind

pub domains_translated : (along : HeadMap) (k : Kind) (xs : Context) → translate_context along (with_domains k xs) ≡ with_domains (translate_kind along k) (translate_context along xs)
unfolding translate_kind
domains_translated along Ty xs = refl
domains_translated along (PiKind a k) xs = domains_translated along k (a ∷ xs)

pub count_translated : (along : HeadMap) (k : Kind) → domain_count k ≡ domain_count (translate_kind along k)
unfolding translate_kind
count_translated along Ty = refl
count_translated along (PiKind a k) = ap suc (count_translated along k)

module _ (from to : Signature) (along : HeadMap) (source : IsSignature from) (target : IsSignature to) (map_is : IsMap from to along) where
  abbrev there : Context → Context
  there = translate_context along

  abbrev headed : Atomic → Headed
  headed r = replace_head (of_constants (by_images along)) 0 r

  -- ---- variables

  lookup_kinded : (context : Context) (i : ℕ) (a : Family) → IsContext from context → slice_get context i ≡ Some a → (D : SimpleContext) × IsKinded from D a
  lookup_kinded [] i a c e = absurd (cc)
  lookup_kinded (b ∷ context) zero a c e = let same : b ≡ a = cc in (erase_context context, subst (IsKinded from (erase_context context)) same (family_kinded from context b c.1))
  lookup_kinded (b ∷ context) (suc i) a c e = lookup_kinded context i a c.0 e

  variable_translated : (context : Context) (i : ℕ) (a : Family) → IsContext from context → VariableHas context i a → VariableHas (there context) i (translate_family along a)
  variable_translated context i a c h =
      let k = lookup_kinded context i h.family c h.found in
      record { family = translate_family along h.family; found = get_map (translate_family along) context i h.family h.found; is = ap (translate_family along) h.is ∙ raise_family_translated from to along map_is (suc i) 0 k.0 h.family k.1 }

  -- ---- constants

  object_image_has : (context : Context) (c : Constant) (a : Family) (value : Value) → Fits to value (FamilyClass a) → HeadedHas to context (object_image c (FamilyClass a) value) a
  object_image_has context c a (SameAs d) h = h
  object_image_has context c a (TermValue m) h =
      (refl, more_checks to to (λ x k e. e) [] context m a h)
  object_image_has context c a (FamilyValue n body) h = absurd h

  constant_has : (context : Context) (c : Constant) (a : Family) → class_of from c ≡ Some (FamilyClass a) → HeadedHas to context (headed_image c (image_of along c)) (translate_family along a) × IsFamily to context (translate_family along a)
  constant_has context c a e =
      let i = map_is.images c (FamilyClass a) e in
      let fits : Fits to i.image.value (FamilyClass (translate_family along a)) = subst (Fits to i.image.value) i.class_is i.fits in
      let at : HeadedHas to context (object_image c i.image.class i.image.value) (translate_family along a) =
      subst (λ z. HeadedHas to context (object_image c z i.image.value) (translate_family along a)) (sym i.class_is) (object_image_has context c (translate_family along a) i.image.value fits) in
      (subst (λ z. HeadedHas to context (headed_image c z) (translate_family along a)) (sym i.mapped) at, more_family to to (λ x k q. q) [] context (translate_family along a) (map_is.classes c (FamilyClass a) e))

  -- ---- objects

  headed_checks : (context : Context) (h : Headed) (a : Family) (c : Constant) → erase a ≡ Base c → HeadedHas to context h a → Checks to context (object_of h) a
  headed_checks context h (Pi a b) c e g = absurd (cc)
  headed_checks context h (AtFamily p) c e g = headed_object to context h p g

  family_of_body : (context : Context) (a b : Family) (n : Object) → IsContext to context → IsFamily to context (Pi a b) → Checks to context n a → IsFamily to context (substitute_family n (erase a) 0 b)
  family_of_body context a b n c f g = substitute_is_family to target context n a g [] b (context_sorted to (a ∷ context) (c, f.0)) f.1

  mutual
    unfolding translate_object translate_family

    pub checks_translated : (context : Context) (m : Object) (a : Family) → IsContext from context → IsContext to (there context) → IsFamily from context a → IsFamily to (there context) (translate_family along a) → Checks from context m a → Checks to (there context) (translate_object along m) (translate_family along a)
    checks_translated context (Lam m) (Pi a b) c c' f f' h = subst (λ z. Checks to (there (a ∷ context)) z (translate_family along b)) (any_depth (by_images along) 0 1 m) (checks_translated (a ∷ context) m b (c, f.0) (c', f'.0) f.1 f'.1 h)
    checks_translated context (Lam m) (AtFamily p) c c' f f' h = absurd h
    checks_translated context (At r) (Pi a b) c c' f f' h = absurd h
    checks_translated context (At r) (AtFamily p) c c' f f' h =
        headed_checks (there context) (headed r) (translate_family along (AtFamily p)) (bases along (head_constant p)) (erase_translated along map_is.atomic (AtFamily p)) (synthesises_translated context r (AtFamily p) c c' h).0

    pub synthesises_translated : (context : Context) (r : Atomic) (a : Family) → IsContext from context → IsContext to (there context) → Synthesises from context r a → HeadedHas to (there context) (headed r) (translate_family along a) × IsFamily to (there context) (translate_family along a)
    synthesises_translated context (Var i) a c c' h =
        let v = variable_translated context i a c h in
        (v, synthesised_is_family to target (there context) (Var i) (translate_family along a) c' v)
    synthesises_translated context (Con d) a c c' h = constant_has (there context) d a h
    synthesises_translated context (App r m) a c c' h =
        let pi : IsFamily from context (Pi h.domain h.body) = synthesised_is_family from source context r (Pi h.domain h.body) c h.head_has in
        let head = synthesises_translated context r (Pi h.domain h.body) c c' h.head_has in
        let argument = checks_translated context m h.domain c c' pi.0 head.1.0 h.argument_has in
        let is : translate_family along a ≡ substitute_family (translate_object along m) (erase (translate_family along h.domain)) 0 (translate_family along h.body) =
        ap (translate_family along) h.is
        ∙ substitute_family_translated from to along map_is (erase_context context) m (erase h.domain) (checks_sort from context m h.domain h.argument_has) [] h.body (family_kinded from (h.domain ∷ context) h.body pi.1)
        ∙ ap (λ t. substitute_family (translate_object along m) t 0 (translate_family along h.body)) (sym (erase_translated along map_is.atomic h.domain)) in
        let family = family_of_body (there context) (translate_family along h.domain) (translate_family along h.body) (translate_object along m) c' head.1 argument in (
          subst (HeadedHas to (there context) (headed (App r m))) (sym is)
              (headed_takes to target (there context) c' (translate_family along h.domain) (translate_family along h.body) head.1 (translate_object along m) argument (headed r) head.0),
          subst (IsFamily to (there context)) (sym is) family,
        )

  -- ---- families and kinds

  image_is : (context : Context) (c : Constant) (k : Kind) (value : Value) → IsKind to [] k → Fits to value (KindClass k) → HeadIs to context k (family_image c (KindClass k) value)
  image_is context c k (SameAs d) is h = (refl, OnSpine (FamilyCon d) refl refl h, more_kind to to (λ x l q. q) [] context k is)
  image_is context c k (TermValue m) is h = absurd h
  image_is context c k (FamilyValue n body) is h =
      (refl, UnderBinders h.0 (subst (λ z. IsFamily to z body) (sym (domains_append k [] context)) (more_family to to (λ x l q. q) (with_domains k []) context body h.1)), more_kind to to (λ x l q. q) [] context k is)

  constant_is : (context : Context) (c : Constant) (k : Kind) → class_of from c ≡ Some (KindClass k) → HeadIs to context (translate_kind along k) (family_head_image c (image_of along c))
  constant_is context c k e =
      let i = map_is.images c (KindClass k) e in
      let fits : Fits to i.image.value (KindClass (translate_kind along k)) = subst (Fits to i.image.value) i.class_is i.fits in
      let at : HeadIs to context (translate_kind along k) (family_image c i.image.class i.image.value) =
      subst (λ z. HeadIs to context (translate_kind along k) (family_image c z i.image.value)) (sym i.class_is) (image_is context c (translate_kind along k) i.image.value (map_is.classes c (KindClass k) e) fits) in
      subst (λ z. HeadIs to context (translate_kind along k) (family_head_image c z)) (sym i.mapped) at

  pi_taken : (context : Context) → IsContext to context → (a : Family) (k : Kind) (m : Object) (binders : ℕ) (family : Family) → FamilyTyped to context binders family (PiKind a k) → IsKind to context (PiKind a k) → Checks to context m a
      → HeadIs to context (substitute_kind m (erase a) 0 k) (head_takes (FamilyHead binders family (PiKind a k)) m)
  pi_taken context c a k m zero family f is g = (refl, spine_taken to target context c family a k m f g, kind_of_body to target context c a k m is g)
  pi_taken context c a k m (suc binders) family f is g = (refl, binder_taken to target context c binders family a k m f is g, kind_of_body to target context c a k m is g)

  head_taken : (context : Context) → IsContext to context → (a : Family) (k : Kind) (m : Object) (head : Head) → HeadIs to context (PiKind a k) head → Checks to context m a → HeadIs to context (substitute_kind m (erase a) 0 k) (head_takes head m)
  head_taken context c a k m (ObjectHead object classifier) h g = absurd h
  head_taken context c a k m (FamilyHead binders family kind) h g =
      subst (λ z. HeadIs to context (substitute_kind m (erase a) 0 k) (head_takes (FamilyHead binders family z) m)) (sym h.0) (pi_taken context c a k m binders family h.1 h.2 g)

  domain_of_head : (context : Context) (a : Family) (k : Kind) (head : Head) → HeadIs to context (PiKind a k) head → IsFamily to context a
  domain_of_head context a k (ObjectHead object classifier) h = absurd h
  domain_of_head context a k (FamilyHead binders family kind) h = (h.2).0

  pub head_translated : (context : Context) (p : AtomicFamily) (k : Kind) → IsContext from context → IsContext to (there context) → SynthesisesKind from context p k → HeadIs to (there context) (translate_kind along k) (translate_head along p)
  unfolding translate_head translate_kind
  head_translated context (FamilyCon c) k c0 c' h = constant_is (there context) c k h
  head_translated context (FamilyApp p m) k c c' h =
      let pi : IsKind from context (PiKind h.domain h.body) = synthesised_is_kind from source context p (PiKind h.domain h.body) c h.head_has in
      let head = head_translated context p (PiKind h.domain h.body) c c' h.head_has in
      let domain = domain_of_head (there context) (translate_family along h.domain) (translate_kind along h.body) (translate_head along p) head in
      let argument = checks_translated context m h.domain c c' pi.0 domain h.argument_has in
      let is : translate_kind along k ≡ substitute_kind (translate_object along m) (erase (translate_family along h.domain)) 0 (translate_kind along h.body) =
      ap (translate_kind along) h.is
      ∙ substitute_kind_translated from to along map_is (erase_context context) m (erase h.domain) (checks_sort from context m h.domain h.argument_has) [] h.body (kind_kinded from (h.domain ∷ context) h.body pi.1)
      ∙ ap (λ t. substitute_kind (translate_object along m) t 0 (translate_kind along h.body)) (sym (erase_translated along map_is.atomic h.domain)) in
      subst (λ z. HeadIs to (there context) z (head_takes (translate_head along p) (translate_object along m))) (sym is)
      (head_taken (there context) c' (translate_family along h.domain) (translate_kind along h.body) (translate_object along m) (translate_head along p) head argument)

  whole : (context : Context) (head : Head) (p : AtomicFamily) → HeadIs to context Ty head → IsFamily to context (family_of head p)
  whole context (ObjectHead object classifier) p h = absurd h
  whole context (FamilyHead binders family kind) p h = family_whole to context binders family h.1

  pub family_translated : (context : Context) (a : Family) → IsContext from context → IsContext to (there context) → IsFamily from context a → IsFamily to (there context) (translate_family along a)
  unfolding translate_family translate_kind
  family_translated context (Pi a b) c c' h =
      let f = family_translated context a c c' h.0 in
      (f, family_translated (a ∷ context) b (c, h.0) (c', f) h.1)
  family_translated context (AtFamily p) c c' h = whole (there context) (translate_head along p) p (head_translated context p Ty c c' h)

  pub kind_translated : (context : Context) (k : Kind) → IsContext from context → IsContext to (there context) → IsKind from context k → IsKind to (there context) (translate_kind along k)
  unfolding translate_kind
  kind_translated context Ty c c' h = tt
  kind_translated context (PiKind a k) c c' h =
      let f = family_translated context a c c' h.0 in
      (f, kind_translated (a ∷ context) k (c, h.0) (c', f) h.1)

  pub context_translated : (context : Context) → IsContext from context → IsContext to (there context)
  context_translated [] c = tt
  context_translated (a ∷ context) c =
      let rest = context_translated context c.0 in
      (rest, family_translated context a c.0 rest c.1)

  pub class_translated : (class : Class) → IsClass from class → IsClass to (translate_class along class)
  class_translated (FamilyClass a) h = family_translated [] a tt tt h
  class_translated (KindClass k) h = kind_translated [] k tt tt h

  -- ---- values

  object_value_fits : (m : Object) (a : Family) → Checks to [] m a → Fits to (object_value m) (FamilyClass a)
  object_value_fits (Lam m) a h = h
  object_value_fits (At (Var i)) a h = h
  object_value_fits (At (Con c)) (Pi a b) h = absurd h
  object_value_fits (At (Con c)) (AtFamily p) h = h
  object_value_fits (At (App r m)) a h = h

  family_value_fits : (n : ℕ) (body : Family) (k : Kind) → n ≡ domain_count k → IsFamily to (with_domains k []) body → Fits to (family_value n body) (KindClass k)
  family_value_fits zero (Pi a b) k e h = (e, h)
  family_value_fits zero (AtFamily (FamilyCon c)) Ty e h = h
  family_value_fits zero (AtFamily (FamilyCon c)) (PiKind a k) e h = absurd (omega (arith, e))
  family_value_fits zero (AtFamily (FamilyApp p m)) k e h = (e, h)
  family_value_fits (suc n) body k e h = (e, h)

  pub value_translated : (class : Class) (value : Value) → IsClass from class → Fits from value class → Fits to (translate_value along value) (translate_class along class)
  unfolding translate_value
  value_translated class (SameAs c) is h =
      let i = map_is.images c class h in
      subst (λ z. Fits to (same_image c z) (translate_class along class)) (sym i.mapped) (subst (Fits to i.image.value) i.class_is i.fits)
  value_translated (FamilyClass a) (TermValue m) is h =
      object_value_fits (translate_object along m) (translate_family along a) (checks_translated [] m a tt tt is (family_translated [] a tt tt is) h)
  value_translated (KindClass k) (TermValue m) is h = absurd h
  value_translated (FamilyClass a) (FamilyValue n body) is h = absurd h
  value_translated (KindClass k) (FamilyValue n body) is h =
      let context : IsContext from (with_domains k []) = domains_context from k [] tt is in
      let body_is : IsFamily to (there (with_domains k [])) (translate_family along body) = family_translated (with_domains k []) body context (context_translated (with_domains k []) context) h.1 in
      family_value_fits n (translate_family along body) (translate_kind along k) (h.0 ∙ count_translated along k) (subst (λ z. IsFamily to z (translate_family along body)) (domains_translated along k []) body_is)
