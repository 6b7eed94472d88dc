-- Translation along a composition is translation along one map and then the other.
use Rattle.std.proofs.Common.{◌≡◌, ℕ, zero, suc, [], ◌∷◌, ◌++◌, length, Some, option_map, refl, sym, ap, ap₂, ◌∙◌, subst, subst₂, arith}
use Rattle.lf_meaning.specs.Terms.{Constant, Object, Lam, At, Atomic, Var, Con, App, Family, Pi, AtFamily, AtomicFamily, FamilyCon, FamilyApp, Kind, Ty, PiKind, Context, Base, with_domains, domain_count}
use Rattle.lf_meaning.specs.Erasure.{erase, head_constant}
use Rattle.lf_meaning.specs.Replacement.{Headed, Kept, Replaced, object_of, takes, value_takes, replace, replace_head, replace_headed, of_constants}
use Rattle.lf_meaning.specs.Substitution.{action, substitution, substitute, substitute_family, substitute_atomic_family}
use Rattle.lf_meaning.specs.Signatures.{Class, FamilyClass, KindClass, Value, SameAs, TermValue, FamilyValue, Signature, class_of}
use Rattle.lf_meaning.specs.Judgements.{Checks, Synthesises, SynthesisesKind, IsFamily, IsKind, IsContext, IsClass, Fits}
use Rattle.lf_substitution_laws.proofs.Constants.{any_depth}
use Rattle.lf_substitution_laws.proofs.Commuting.{replace_object_of}
use Rattle.lf_substitution_laws.proofs.Domains.{rename_retypes, retyped_action}
use Rattle.lf_typing.proofs.Closed.{class_is_family, class_is_kind}
use Rattle.lf_typing.proofs.HeadTyping.{synthesised_is_family, synthesised_is_kind, HeadedHas}
use Rattle.translation_meaning.specs.Heads.{Head, ObjectHead, FamilyHead, head_takes}
use Rattle.translation_meaning.specs.ProperValues.{IsProperValue}
use Rattle.lf_meaning.specs.HeadMaps.{Image, HeadMap, image_of}
use Rattle.translation_meaning.specs.Translation.{object_image, headed_image, family_image, family_head_image, family_of, translate_object, translate_head, translate_family, translate_kind, translate_class, translate_value, translate_image, object_value, family_value, same_image, compose}
use Rattle.translation_laws.proofs.Spines.{composed}
use Rattle.translation_typing.specs.TypedTranslation.{translate_context, IsTypedTranslation}
use Rattle.translation_typing.specs.AtomicBodies.{HasAtomicBody}
use Rattle.translation_typing.specs.Composition.{AreComposable}
use Rattle.translation_typing.proofs.KindDomains.{domains_append, domains_length}
use Rattle.translation_typing.specs.FamilyHeads.{FamilyTyped, OnSpine, UnderBinders}
use Rattle.translation_typing.proofs.TypedHeads.{domains_context, HeadIs, binder_taken, family_whole}
use Rattle.translation_typing.proofs.Bases.{bases, renamed, erase_translated, HasBase, head_base}
use Rattle.translation_typing.proofs.Images.{by_images}
use Rattle.translation_typing.proofs.Proper.{proper_object, proper_body, proper_atomic_map}
use Rattle.translation_typing.proofs.Carrying.{domains_translated, count_translated}
use Rattle.translation_typing.proofs.Laws.{Images, typed_images, context_carried, family_carried, kind_carried, object_carried, atomic_carried, head_carried, substituted_object, substituted_family, substituted_kind}

-- a λ is translated under its binder
pub lam_translated : (along : HeadMap) (m : Object) → translate_object along (Lam m) ≡ Lam (translate_object along m)
unfolding translate_object
lam_translated along m = ap Lam (any_depth (by_images along) 1 0 m)

-- an atomic family that is whole is translated as a head without binders
no_binders : (sig : Signature) (context : Context) (binders : ℕ) (family : Family) → FamilyTyped sig context binders family Ty → binders ≡ zero
no_binders sig context binders family (OnSpine p b f h) = b
no_binders sig context binders family (UnderBinders e h) = e

whole_by : (sig : Signature) (context : Context) (head : Head) (q : AtomicFamily) → HeadIs sig context Ty head → head ≡ FamilyHead zero (family_of head q) Ty
whole_by sig context (ObjectHead object classifier) q h = absurd h
whole_by sig context (FamilyHead binders family kind) q h = ap₂ (λ n k. FamilyHead n family k) (no_binders sig context binders family h.1) h.0

whole_head : (from to : Signature) (along : HeadMap) → IsTypedTranslation from to along → (context : Context) (q : AtomicFamily) → IsContext from context → SynthesisesKind from context q Ty → translate_head along q ≡ FamilyHead zero (translate_family along (AtFamily q)) Ty
unfolding translate_family translate_kind
whole_head from to along is context q c h = whole_by to (translate_context along context) (translate_head along q) q (head_carried from to along is context q Ty c h)

-- ---- objects

-- at a Π the same; at an atomic family of the same object
abbrev Alike : Family → Headed → Headed → Type 0
Alike (Pi a b) h g = h ≡ g
Alike (AtFamily p) h g = object_of h ≡ object_of g

alike : (a : Family) (h g : Headed) → h ≡ g → Alike a h g
alike (Pi a b) h g e = e
alike (AtFamily p) h g e = ap object_of e

module _ (from middle to : Signature) (first second : HeadMap) (is : AreComposable from middle to first second) where
  abbrev both : HeadMap
  both = compose first second

  abbrev between : Context → Context
  between = translate_context first

  first_images : Images from middle first
  first_images = typed_images from middle first is.first_is.typed

  second_images : Images middle to second
  second_images = typed_images middle to second is.second_is.typed

  both_image : (c : Constant) (image : Image) → image_of first c ≡ Some image → image_of both c ≡ Some (translate_image second image)
  both_image c image e = composed first second c ∙ ap (option_map (translate_image second)) e

  same_action : (a : Family) → action (erase (translate_family second a)) ≡ action (erase a)
  same_action a = ap action (erase_translated second (proper_atomic_map second is.second_proper) a) ∙ retyped_action (renamed second) (rename_retypes (bases second)) (erase a)

  -- a head with its values translated
  abbrev through : Headed → Headed
  through h = replace_headed (of_constants (by_images second)) 0 h

  through_object : (h : Headed) → translate_object second (object_of h) ≡ object_of (through h)
  unfolding translate_object
  through_object h = replace_object_of (of_constants (by_images second)) 0 h

  through_takes : (context : Context) (c : IsContext middle context) (h : Headed) (m : Object) (a b : Family) → IsFamily middle context (Pi a b) → HeadedHas middle context h (Pi a b) → Checks middle context m a
      → through (takes h m) ≡ takes (through h) (translate_object second m)
  unfolding translate_object
  through_takes context c (Kept r) m a b f h g = refl
  through_takes context c (Replaced (At r) d) m a b f h g = absurd h.1
  through_takes context c (Replaced (Lam n) d) m a b f h g =
      let body : translate_object second (substitute m (erase a) 0 n) ≡ substitute (translate_object second m) (erase a) 0 (replace (of_constants (by_images second)) 1 n) =
      substituted_object middle to second is.second_is [] context m a f.0 g n b h.1
      ∙ ap (λ z. replace (substitution (translate_object second m) z) 0 (translate_object second n)) (same_action a)
      ∙ ap (substitute (translate_object second m) (erase a) 0) (any_depth (by_images second) 0 1 n) in
      subst (λ z. through (value_takes (Lam n) z m) ≡ value_takes (Lam (replace (of_constants (by_images second)) 1 n)) z (translate_object second m)) (sym h.0) (ap (λ z. Replaced z (action (erase b))) body)

  -- an object constant
  value_through : (c : Constant) (a : Family) (value : Value) → IsFamily middle [] a → Fits middle value (FamilyClass a) → Alike (translate_family second a) (through (object_image c (FamilyClass a) value)) (object_image c (translate_class second (FamilyClass a)) (translate_value second value))
  unfolding translate_value translate_object
  value_through c a (SameAs d) f h =
      let j = second_images d (FamilyClass a) h in
      let fits : Fits to j.image.value (FamilyClass (translate_family second a)) = subst (Fits to j.image.value) j.class_is j.fits in
      let at : headed_image d (Some j.image) ≡ object_image c (FamilyClass (translate_family second a)) j.image.value = ap (λ z. object_image d z j.image.value) j.class_is ∙ any_name (translate_family second a) j.image.value fits in
      alike (translate_family second a) (headed_image d (image_of second d)) (object_image c (FamilyClass (translate_family second a)) (same_image d (image_of second d)))
      (ap (headed_image d) j.mapped ∙ at ∙ ap (λ z. object_image c (FamilyClass (translate_family second a)) (same_image d z)) (sym j.mapped))
    where
      any_name : (b : Family) (value : Value) → Fits to value (FamilyClass b) → object_image d (FamilyClass b) value ≡ object_image c (FamilyClass b) value
      any_name b (SameAs x) f = refl
      any_name b (TermValue m) f = refl
      any_name b (FamilyValue n body) f = absurd f
  value_through c a (TermValue m) f h = by (translate_object second m) (translate_family second a) (object_carried middle to second is.second_is [] m a tt f h) (sym (same_action a)) refl
    where
      by : (o : Object) (b : Family) → Checks to [] o b → action (erase a) ≡ action (erase b) → translate_object second m ≡ o → Alike b (Replaced (translate_object second m) (action (erase a))) (object_image c (FamilyClass b) (object_value o))
      by (Lam x) b f e q = alike b (Replaced (translate_object second m) (action (erase a))) (Replaced (Lam x) (action (erase b))) (ap₂ Replaced q e)
      by (At (Var i)) b f e q = alike b (Replaced (translate_object second m) (action (erase a))) (Replaced (At (Var i)) (action (erase b))) (ap₂ Replaced q e)
      by (At (App r n)) b f e q = alike b (Replaced (translate_object second m) (action (erase a))) (Replaced (At (App r n)) (action (erase b))) (ap₂ Replaced q e)
      by (At (Con d)) (Pi x y) f e q = absurd f
      by (At (Con d)) (AtFamily p) f e q = q
  value_through c a (FamilyValue n body) f h = absurd h

  constant_through : (c : Constant) (a : Family) → class_of from c ≡ Some (FamilyClass a) → Alike (translate_family second (translate_family first a)) (through (headed_image c (image_of first c))) (headed_image c (image_of both c))
  constant_through c a e =
      let i = first_images c (FamilyClass a) e in
      let fits : Fits middle i.image.value (FamilyClass (translate_family first a)) = subst (Fits middle i.image.value) i.class_is i.fits in
      let family : IsFamily middle [] (translate_family first a) = family_carried from middle first is.first_is [] a tt (class_is_family from is.first_is.source c a e) in
      let at = value_through c (translate_family first a) i.image.value family fits in
      let there : Alike (translate_family second (translate_family first a)) (through (object_image c i.image.class i.image.value)) (object_image c (translate_class second i.image.class) (translate_value second i.image.value)) =
      subst (λ z. Alike (translate_family second (translate_family first a)) (through (object_image c z i.image.value)) (object_image c (translate_class second z) (translate_value second i.image.value))) (sym i.class_is) at in
      subst₂ (λ y z. Alike (translate_family second (translate_family first a)) (through (headed_image c y)) (headed_image c z)) (sym i.mapped) (sym (both_image c i.image i.mapped)) there

  abbrev headed : HeadMap → Atomic → Headed
  headed along r = replace_head (of_constants (by_images along)) 0 r

  at_base : (a : Family) (c : Constant) (h g : Headed) → erase a ≡ Base c → Alike a h g → object_of h ≡ object_of g
  at_base (Pi a b) c h g e f = absurd (cc)
  at_base (AtFamily p) c h g e f = f

  erased_twice : (p : AtomicFamily) → erase (translate_family second (translate_family first (AtFamily p))) ≡ Base (bases second (bases first (head_constant p)))
  erased_twice p = erase_translated second (proper_atomic_map second is.second_proper) (translate_family first (AtFamily p)) ∙ ap (renamed second) (erase_translated first (proper_atomic_map first is.first_proper) (AtFamily p))

  mutual
    unfolding translate_object translate_family

    pub object_composed : (context : Context) (m : Object) (a : Family) → IsContext from context → IsFamily from context a → Checks from context m a → translate_object second (translate_object first m) ≡ translate_object both m
    object_composed context (Lam m) (Pi a b) c f h =
        ap (translate_object second) (lam_translated first m) ∙ lam_translated second (translate_object first m) ∙ ap Lam (object_composed (a ∷ context) m b (c, f.0) f.1 h) ∙ sym (lam_translated both m)
    object_composed context (Lam m) (AtFamily p) c f h = absurd h
    object_composed context (At r) (Pi a b) c f h = absurd h
    object_composed context (At r) (AtFamily p) c f h =
        through_object (headed first r)
        ∙ at_base (translate_family second (translate_family first (AtFamily p))) (bases second (bases first (head_constant p))) (through (headed first r)) (headed both r) (erased_twice p) (atomic_composed context r (AtFamily p) c h)

    atomic_composed : (context : Context) (r : Atomic) (a : Family) → IsContext from context → Synthesises from context r a → Alike (translate_family second (translate_family first a)) (through (headed first r)) (headed both r)
    atomic_composed context (Var i) a c h = alike (translate_family second (translate_family first a)) (Kept (Var i)) (Kept (Var i)) refl
    atomic_composed context (Con d) a c h = constant_through d a h
    atomic_composed context (App r m) a c h =
        let pi : IsFamily from context (Pi h.domain h.body) = synthesised_is_family from is.first_is.source context r (Pi h.domain h.body) c h.head_has in
        let head : through (headed first r) ≡ headed both r = atomic_composed context r (Pi h.domain h.body) c h.head_has in
        let taken = through_takes (between context) (context_carried from middle first is.first_is context c) (headed first r) (translate_object first m) (translate_family first h.domain) (translate_family first h.body)
        (family_carried from middle first is.first_is context (Pi h.domain h.body) c pi) (atomic_carried from middle first is.first_is context r (Pi h.domain h.body) c h.head_has) (object_carried from middle first is.first_is context m h.domain c pi.0 h.argument_has) in
        alike (translate_family second (translate_family first a)) (through (headed first (App r m))) (headed both (App r m))
        (taken ∙ ap₂ takes head (object_composed context m h.domain c pi.0 h.argument_has))

  -- ---- families

  -- a head with its family and its kind translated
  abbrev head_through : Head → Head
  head_through (ObjectHead object classifier) = ObjectHead object classifier
  head_through (FamilyHead zero (AtFamily q) kind) = translate_head second q
  head_through (FamilyHead zero (Pi a b) kind) = FamilyHead zero (translate_family second (Pi a b)) (translate_kind second kind)
  head_through (FamilyHead (suc binders) family kind) = FamilyHead (suc binders) (translate_family second family) (translate_kind second kind)

  pi_through : (context : Context) (c : IsContext middle context) (d : Family) (k : Kind) (m : Object) (binders : ℕ) (q : AtomicFamily) → FamilyTyped middle context binders (AtFamily q) (PiKind d k) → IsKind middle context (PiKind d k) → Checks middle context m d
      → head_through (head_takes (FamilyHead binders (AtFamily q) (PiKind d k)) m) ≡ head_takes (head_through (FamilyHead binders (AtFamily q) (PiKind d k))) (translate_object second m)
  unfolding translate_head translate_kind
  pi_through context c d k m zero q f i g = refl
  pi_through context c d k m (suc binders) q (OnSpine p b e h) i g = absurd (omega (arith, b))
  pi_through context c d (PiKind a k) m (suc zero) q (UnderBinders e h) i g = absurd (omega (arith, e))
  pi_through context c d Ty m (suc zero) q (UnderBinders e h) i g =
      let left : FamilyTyped middle context zero (substitute_family m (erase d) zero (AtFamily q)) Ty = binder_taken middle is.second_is.source context c zero (AtFamily q) d Ty m (UnderBinders e h) i g in
      whole_head middle to second is.second_is context (substitute_atomic_family m (erase d) 0 q) c (family_whole middle context zero (AtFamily (substitute_atomic_family m (erase d) 0 q)) left)
      ∙ ap (λ z. FamilyHead zero z Ty) (substituted_family middle to second is.second_is [] context m d i.0 g (AtFamily q) h)
  pi_through context c d k m (suc (suc binders)) q (UnderBinders e h) i g =
      let count : length (with_domains k []) ≡ suc binders = domains_length k [] ∙ omega (arith, e) in
      let whole : IsFamily middle (with_domains k [] ++ (d ∷ context)) (AtFamily q) = subst (λ z. IsFamily middle z (AtFamily q)) (domains_append k [] (d ∷ context)) h in
      ap₂ (FamilyHead (suc binders))
      (subst (λ n. translate_family second (substitute_family m (erase d) n (AtFamily q)) ≡ substitute_family (translate_object second m) (erase (translate_family second d)) n (translate_family second (AtFamily q))) count
      (substituted_family middle to second is.second_is (with_domains k []) context m d i.0 g (AtFamily q) whole))
      (substituted_kind middle to second is.second_is [] context m d i.0 g k i.1)

  head_taken : (context : Context) → IsContext middle context → (d : Family) (k : Kind) (m : Object) (head : Head) (base : Constant) → HasBase base head → HeadIs middle context (PiKind d k) head → Checks middle context m d
      → head_through (head_takes head m) ≡ head_takes (head_through head) (translate_object second m)
  head_taken context c d k m (ObjectHead object classifier) base b h g = absurd h
  head_taken context c d k m (FamilyHead binders (Pi x y) kind) base b h g = absurd b
  head_taken context c d k m (FamilyHead binders (AtFamily q) kind) base b h g =
      subst (λ z. head_through (head_takes (FamilyHead binders (AtFamily q) z) m) ≡ head_takes (head_through (FamilyHead binders (AtFamily q) z)) (translate_object second m)) (sym h.0)
      (pi_through context c d k m binders q h.1 h.2 g)

  family_value_through : (c : Constant) (k : Kind) (value : Value) → IsKind middle [] k → HasAtomicBody value → Fits middle value (KindClass k) → head_through (family_image c (KindClass k) value) ≡ family_image c (translate_class second (KindClass k)) (translate_value second value)
  unfolding translate_head translate_value translate_family translate_kind
  family_value_through c k (TermValue m) i a h = absurd h
  family_value_through c k (SameAs d) i a h =
      let j = second_images d (KindClass k) h in
      let fits : Fits to j.image.value (KindClass (translate_kind second k)) = subst (Fits to j.image.value) j.class_is j.fits in
      ap (family_head_image d) j.mapped ∙ ap (λ z. family_image d z j.image.value) j.class_is ∙ any_name (translate_kind second k) j.image.value fits ∙ ap (λ z. family_image c (KindClass (translate_kind second k)) (same_image d z)) (sym j.mapped)
    where
      any_name : (l : Kind) (value : Value) → Fits to value (KindClass l) → family_image d (KindClass l) value ≡ family_image c (KindClass l) value
      any_name l (SameAs x) f = refl
      any_name l (TermValue m) f = absurd f
      any_name l (FamilyValue n body) f = refl
  family_value_through c k (FamilyValue (suc n) body) i a h = refl
  family_value_through c k (FamilyValue zero (Pi x y)) i a h = absurd a
  family_value_through c (PiKind d k) (FamilyValue zero (AtFamily q)) i a h = absurd (let e = h.0 in omega (arith, e))
  family_value_through c Ty (FamilyValue zero (AtFamily q)) i a h =
      whole_head middle to second is.second_is [] q tt h.1 ∙ by (translate_family second (AtFamily q))
    where
      by : (family : Family) → FamilyHead zero family Ty ≡ family_image c (KindClass Ty) (family_value zero family)
      by (Pi x y) = refl
      by (AtFamily (FamilyCon e)) = refl
      by (AtFamily (FamilyApp p m)) = refl

  family_constant_through : (c : Constant) (k : Kind) → class_of from c ≡ Some (KindClass k) → head_through (family_head_image c (image_of first c)) ≡ family_head_image c (image_of both c)
  family_constant_through c k e =
      let i = first_images c (KindClass k) e in
      let fits : Fits middle i.image.value (KindClass (translate_kind first k)) = subst (Fits middle i.image.value) i.class_is i.fits in
      let kind : IsKind middle [] (translate_kind first k) = kind_carried from middle first is.first_is [] k tt (class_is_kind from is.first_is.source c k e) in
      let at = family_value_through c (translate_kind first k) i.image.value kind (proper_atomic_map first is.first_proper c i.image i.mapped) fits in
      let there : head_through (family_image c i.image.class i.image.value) ≡ family_image c (translate_class second i.image.class) (translate_value second i.image.value) =
      subst (λ z. head_through (family_image c z i.image.value) ≡ family_image c (translate_class second z) (translate_value second i.image.value)) (sym i.class_is) at in
      subst₂ (λ y z. head_through (family_head_image c y) ≡ family_head_image c z) (sym i.mapped) (sym (both_image c i.image i.mapped)) there

  head_composed : (context : Context) (p : AtomicFamily) (k : Kind) → IsContext from context → SynthesisesKind from context p k → head_through (translate_head first p) ≡ translate_head both p
  unfolding translate_head translate_kind
  head_composed context (FamilyCon d) k c h = family_constant_through d k h
  head_composed context (FamilyApp p m) k c h =
      let pi : IsKind from context (PiKind h.domain h.body) = synthesised_is_kind from is.first_is.source context p (PiKind h.domain h.body) c h.head_has in
      head_taken (between context) (context_carried from middle first is.first_is context c) (translate_family first h.domain) (translate_kind first h.body) (translate_object first m) (translate_head first p) (bases first (head_constant p))
      (head_base first (proper_atomic_map first is.first_proper) p) (head_carried from middle first is.first_is context p (PiKind h.domain h.body) c h.head_has) (object_carried from middle first is.first_is context m h.domain c pi.0 h.argument_has)
      ∙ ap₂ head_takes (head_composed context p (PiKind h.domain h.body) c h.head_has) (object_composed context m h.domain c pi.0 h.argument_has)

  any_name : (head : Head) (base : Constant) (q p : AtomicFamily) → HasBase base head → family_of head q ≡ family_of head p
  any_name (ObjectHead object classifier) base q p h = absurd h
  any_name (FamilyHead binders family kind) base q p h = refl

  pub family_composed : (context : Context) (a : Family) → IsContext from context → IsFamily from context a → translate_family second (translate_family first a) ≡ translate_family both a
  unfolding translate_family
  family_composed context (Pi a b) c h = ap₂ Pi (family_composed context a c h.0) (family_composed (a ∷ context) b (c, h.0) h.1)
  family_composed context (AtFamily p) c h = by (translate_head first p) (whole_head from middle first is.first_is context p c h) (head_base first (proper_atomic_map first is.first_proper) p) (head_composed context p Ty c h)
    where
      by : (head : Head) → head ≡ FamilyHead zero (family_of head p) Ty → HasBase (bases first (head_constant p)) head → head_through head ≡ translate_head both p → translate_family second (family_of head p) ≡ family_of (translate_head both p) p
      by (ObjectHead object classifier) e b g = absurd b
      by (FamilyHead binders (Pi x y) kind) e b g = absurd b
      by (FamilyHead binders (AtFamily q) kind) e b g =
          any_name (translate_head second q) (bases second (head_constant q)) q p (head_base second (proper_atomic_map second is.second_proper) q) ∙ ap (λ z. family_of z p) (ap head_through (sym e) ∙ g)

  pub kind_composed : (context : Context) (k : Kind) → IsContext from context → IsKind from context k → translate_kind second (translate_kind first k) ≡ translate_kind both k
  unfolding translate_kind
  kind_composed context Ty c h = refl
  kind_composed context (PiKind a k) c h = ap₂ PiKind (family_composed context a c h.0) (kind_composed (a ∷ context) k (c, h.0) h.1)

  pub class_composed : (class : Class) → IsClass from class → translate_class second (translate_class first class) ≡ translate_class both class
  class_composed (FamilyClass a) h = ap FamilyClass (family_composed [] a tt h)
  class_composed (KindClass k) h = ap KindClass (kind_composed [] k tt h)

  -- ---- values

  object_value_through : (o : Object) (a : Family) → Checks middle [] o a → translate_value second (object_value o) ≡ object_value (translate_object second o)
  unfolding translate_value translate_object
  object_value_through (Lam m) a h = refl
  object_value_through (At (Var i)) a h = refl
  object_value_through (At (App r m)) a h = refl
  object_value_through (At (Con e)) (Pi x y) h = absurd h
  object_value_through (At (Con e)) (AtFamily p) h =
      let j = second_images e (FamilyClass (AtFamily p)) h in
      let fits : Fits to j.image.value (FamilyClass (translate_family second (AtFamily p))) = subst (Fits to j.image.value) j.class_is j.fits in
      let at : j.image.value ≡ object_value (object_of (headed_image e (Some j.image))) =
      subst (λ z. j.image.value ≡ object_value (object_of (object_image e z j.image.value))) (sym j.class_is) (by (translate_family second (AtFamily p)) j.image.value fits (is.second_proper e j.image j.mapped)) in
      ap (same_image e) j.mapped ∙ at ∙ ap (λ z. object_value (object_of (headed_image e z))) (sym j.mapped)
    where
      by : (a : Family) (value : Value) → Fits to value (FamilyClass a) → IsProperValue value → value ≡ object_value (object_of (object_image e (FamilyClass a) value))
      by a (SameAs d) f q = refl
      by a (TermValue m) f q = sym (proper_object m q)
      by a (FamilyValue n body) f q = absurd f

  family_value_of : (n : ℕ) (family : Family) (k : Kind) → n ≡ domain_count k → IsFamily middle (with_domains k []) family → translate_value second (family_value n family) ≡ family_value n (translate_family second family)
  unfolding translate_value translate_family translate_head translate_kind
  family_value_of (suc n) family k e h = refl
  family_value_of zero (Pi a b) k e h = refl
  family_value_of zero (AtFamily (FamilyApp p m)) k e h = refl
  family_value_of zero (AtFamily (FamilyCon c)) (PiKind a k) e h = absurd (omega (arith, e))
  family_value_of zero (AtFamily (FamilyCon c)) Ty e h =
      let j = second_images c (KindClass Ty) h in
      let fits : Fits to j.image.value (translate_class second (KindClass Ty)) = subst (Fits to j.image.value) j.class_is j.fits in
      let at : j.image.value ≡ family_value zero (family_of (family_head_image c (Some j.image)) (FamilyCon c)) =
      subst (λ z. j.image.value ≡ family_value zero (family_of (family_image c z j.image.value) (FamilyCon c))) (sym j.class_is) (by j.image.value fits (is.second_proper c j.image j.mapped)) in
      ap (same_image c) j.mapped ∙ at ∙ ap (λ z. family_value zero (family_of (family_head_image c z) (FamilyCon c))) (sym j.mapped)
    where
      by : (value : Value) → Fits to value (translate_class second (KindClass Ty)) → IsProperValue value → value ≡ family_value zero (family_of (family_image c (translate_class second (KindClass Ty)) value) (FamilyCon c))
      by (SameAs d) f q = refl
      by (TermValue m) f q = absurd f
      by (FamilyValue zero body) f q = sym (proper_body body q)
      by (FamilyValue (suc n) body) f q = absurd (let e = f.0 in omega (arith, e))

  pub value_composed : (class : Class) (value : Value) → IsClass from class → Fits from value class → translate_value second (translate_value first value) ≡ translate_value both value
  unfolding translate_value
  value_composed class (SameAs c) i h =
      let j = first_images c class h in
      ap (λ z. translate_value second (same_image c z)) j.mapped ∙ ap (same_image c) (sym (both_image c j.image j.mapped))
  value_composed (KindClass k) (TermValue m) i h = absurd h
  value_composed (FamilyClass a) (FamilyValue n body) i h = absurd h
  value_composed (FamilyClass a) (TermValue m) i h =
      object_value_through (translate_object first m) (translate_family first a) (object_carried from middle first is.first_is [] m a tt i h) ∙ ap object_value (object_composed [] m a tt i h)
  value_composed (KindClass k) (FamilyValue n body) i h =
      let context : IsContext from (with_domains k []) = domains_context from k [] tt i in
      let there : IsFamily middle (with_domains (translate_kind first k) []) (translate_family first body) =
      subst (λ z. IsFamily middle z (translate_family first body)) (domains_translated first k []) (family_carried from middle first is.first_is (with_domains k []) body context h.1) in
      family_value_of n (translate_family first body) (translate_kind first k) (h.0 ∙ count_translated first k) there ∙ ap (family_value n) (family_composed (with_domains k []) body context h.1)
