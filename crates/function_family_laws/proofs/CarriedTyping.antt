-- Translation keeps typing, along every map whose images have the translated classes.
use Rattle.std.proofs.Common.{◌≡◌, ℕ, zero, suc, List, [], ◌∷◌, ◌++◌, length, map, Option, Some, None, refl, sym, ap, ap₂, subst, ◌∙◌, arith}
use Rattle.std.specs.Prelude.{slice_get}
use Rattle.lf_meaning.specs.Terms.{Constant, Object, Lam, At, Atomic, Var, Con, App, Family, Pi, AtFamily, AtomicFamily, FamilyCon, FamilyApp, Kind, Ty, PiKind, Simple, Context, SimpleContext, with_domains}
use Rattle.lf_meaning.specs.Raising.{raise_family}
use Rattle.lf_meaning.specs.Erasure.{erase, erase_context}
use Rattle.lf_meaning.specs.Substitution.{Typed, substitute_family, substitute_kind}
use Rattle.lf_meaning.specs.Signatures.{Class, FamilyClass, KindClass, Signature, class_of}
use Rattle.lf_meaning.specs.Sorts.{HasSort, IsSortedFamily, IsSortedKind, sort_of_class, sorts_of}
use Rattle.lf_meaning.specs.Judgements.{VariableHas, Checks, Synthesises, SynthesisesKind, IsFamily, IsKind, IsContext, IsSignature}
use Rattle.lf_substitution_laws.proofs.Families.{erase_map, raise_family_twice}
use Rattle.lf_substitution_laws.proofs.Past.{raise_family_past, raise_kind_past}
use Rattle.lf_term_laws.proofs.Lookups.{get_map}
use Rattle.lf_typing.proofs.Typed.{checks_sort, family_sorted, kind_sorted, synthesises_kind_sorted, more_synthesises_kind, more_checks, more_family, more_kind}
use Rattle.lf_typing.proofs.Closed.{class_is_family, class_is_kind}
use Rattle.lf_typing.proofs.HeadTyping.{synthesised_is_family, synthesised_is_kind, app_checks, app_type}
use Rattle.lf_typing.proofs.SubstitutionTyping.{substitute_is_family}
use Rattle.lf_typing.proofs.Regular.{context_sorted}
use Rattle.translation_typing.specs.KindedFamilies.{domains_of}
use Rattle.translation_typing.proofs.KindDomains.{domains_of_length, domains_append, simples_erased}
use Rattle.translation_typing.specs.KindedFamilies.{class_domains}
use Rattle.translation_typing.proofs.Kinded.{family_kinded, kind_kinded}
use Rattle.translation_typing.specs.FamilyHeads.{FamilyTyped, OnSpine, UnderBinders}
use Rattle.translation_typing.proofs.TypedHeads.{kind_of_body, spine_taken, binder_taken, family_whole}
use Rattle.std.proofs.lemmas.Option.{same_Some}
use Rattle.translation_meaning.specs.FunctionFamilies.{with_bases, listed_variable, takes_at_type, carried, carried_head, PartialFamily, takes_at_kind, partial_takes, carried_atomic, carried_family, carried_kind, carried_context}
use Rattle.function_family_laws.proofs.CarriedObjects.{AreTypedObjects, typed_taken}
use Rattle.function_family_laws.proofs.PartialFamilies as PartialFamilies
use Rattle.function_family_laws.proofs.PartialFamilies.{PartialFits, BodyFits}
use Rattle.function_family_laws.proofs.CarriedFamilies.{erase_carried, AreTypedFamilies, raise_family_carried, raise_kind_carried, family_substituted, kind_substituted}
use Rattle.eta_laws.proofs.IdentityTyping.{eta_checks}

append_nothing : {A : Type 0} (xs : List A) → xs ++ [] ≡ xs
append_nothing [] = refl
append_nothing (x ∷ xs) = ap (λ z. x ∷ z) (append_nothing xs)

-- a head of this kind
pub record PartialIs (sig : Signature) (context : Context) (k : Kind) (head : PartialFamily) : Type 0 where
  pub kind_is : head.kind ≡ k
  pub family_typed : FamilyTyped sig context head.binders head.family k
  pub is_kind : IsKind sig context k

-- a value of this family, at its erasure
pub record TypedIs (sig : Signature) (context : Context) (a : Family) (head : Typed) : Type 0 where
  pub type_is : head.type ≡ erase a
  pub checks : Checks sig context head.value a
  pub family_is : IsFamily sig context a

-- the images have the translated classes
pub record AreTypedImages (objects : Constant → Typed) (families : Constant → PartialFamily) (bases : Constant → Simple) (from to : Signature) : Type 0 where
  pub erased : (c : Constant) → erase (families c).family ≡ bases c
  pub objects_typed : (c : Constant) (a : Family) → class_of from c ≡ Some (FamilyClass a) → TypedIs to [] (carried_family objects families [] a) (objects c)
  pub families_typed : (c : Constant) (k : Kind) → class_of from c ≡ Some (KindClass k) → PartialIs to [] (carried_kind objects families [] k) (families c)

module _ (objects : Constant → Typed) (families : Constant → PartialFamily) (bases : Constant → Simple) (from to : Signature) (images_typed : AreTypedImages objects families bases from to) where
  abbrev re : Simple → Simple
  re = with_bases bases

  -- ---- typed images have their simple types

  constant_typed : (c : Constant) (t : Simple) (o : Option Class) → class_of from c ≡ o → sort_of_class o ≡ Some t → ((objects c).type ≡ re t) × HasSort (sorts_of to) [] (objects c).value (re t)
  constant_typed c t None e h = absurd (cc)
  constant_typed c t (Some (KindClass k)) e h = absurd (cc)
  constant_typed c t (Some (FamilyClass a)) e h =
      let i = images_typed.objects_typed c a e in
      let same : erase (carried_family objects families [] a) ≡ re t = erase_carried objects families bases images_typed.erased [] a ∙ ap re (same_Some _ _ h) in
      (i.type_is ∙ same, subst (HasSort (sorts_of to) [] (objects c).value) same (checks_sort to [] (objects c).value (carried_family objects families [] a) i.checks))

  pub typed_objects : AreTypedObjects objects bases (sorts_of from) (sorts_of to)
  typed_objects = record { type_is = λ c t h. (constant_typed c t (class_of from c) refl h).0; has = λ c t h. (constant_typed c t (class_of from c) refl h).1 }

  domains_carried : (E : SimpleContext) (k : Kind) → domains_of (carried_kind objects families E k) ≡ map re (domains_of k)
  domains_carried E Ty = refl
  domains_carried E (PiKind a k) = ap₂ (λ s ss. s ∷ ss) (erase_carried objects families bases images_typed.erased E a) (domains_carried (erase (carried_family objects families E a) ∷ E) k)

  body_fits : (k : Kind) (binders : ℕ) (family : Family) → FamilyTyped to [] binders family k → BodyFits (sorts_of to) [] (domains_of k) binders family
  body_fits k binders family (OnSpine p e f h) = PartialFamilies.OnSpine p e f (synthesises_kind_sorted to [] p k h)
  body_fits k binders family (UnderBinders e h) = PartialFamilies.ForBinders (e ∙ sym (domains_of_length k)) (subst (λ z. IsSortedFamily (sorts_of to) z family) (simples_erased k []) (family_sorted to (with_domains k []) family h))

  family_fits : (c : Constant) (rest : List Simple) (o : Option Class) → class_of from c ≡ o → class_domains o ≡ Some rest → PartialFits (sorts_of to) [] (map re rest) (families c)
  family_fits c rest None e h = absurd (cc)
  family_fits c rest (Some (FamilyClass a)) e h = absurd (cc)
  family_fits c rest (Some (KindClass k)) e h =
      let i = images_typed.families_typed c k e in
      let there : Kind = carried_kind objects families [] k in
      let same : domains_of there ≡ map re rest = domains_carried [] k ∙ ap (map re) (same_Some _ _ h) in
      record { domains = ap domains_of i.kind_is ∙ same; kind_sorted = subst (λ z. IsSortedKind (sorts_of to) [] z) (sym i.kind_is) (kind_sorted to [] there i.is_kind); body = subst (λ z. BodyFits (sorts_of to) [] z (families c).binders (families c).family) same (body_fits there (families c).binders (families c).family i.family_typed) }

  pub typed_families : AreTypedFamilies families bases from (sorts_of to)
  typed_families = record { erased = images_typed.erased; fits = λ c rest h. family_fits c rest (class_of from c) refl h }

  -- ---- contexts

  abbrev there : Context → Context
  there context = carried_context objects families context

  abbrev types : Context → SimpleContext
  types context = erase_context (there context)

  abbrev family_in : Context → Family → Family
  family_in context a = carried_family objects families (types context) a

  pub types_are : (context : Context) → types context ≡ map re (erase_context context)
  types_are [] = refl
  types_are (a ∷ context) = ap₂ (λ s ss. s ∷ ss) (erase_carried objects families bases images_typed.erased (types context) a) (types_are context)

  module _ (source : IsSignature from) (target : IsSignature to) where
    -- a closed family is translated to the same in any context
    pub closed_family : (E : SimpleContext) (a : Family) → IsFamily from [] a → IsFamily to [] (carried_family objects families [] a) → carried_family objects families E a ≡ carried_family objects families [] a
    closed_family E a h h' =
        ap (λ z. carried_family objects families z a) (sym (append_nothing E))
        ∙ ap (carried_family objects families (E ++ [])) (sym (raise_family_past (sorts_of from) (length E) [] 0 a (omega arith) (family_sorted from [] a h)))
        ∙ sym (raise_family_carried objects families bases from (sorts_of to) typed_objects typed_families E [] [] [] a refl (family_kinded from [] a h))
        ∙ raise_family_past (sorts_of to) (length E) [] 0 (carried_family objects families [] a) (omega arith) (family_sorted to [] (carried_family objects families [] a) h')

    pub closed_kind : (E : SimpleContext) (k : Kind) → IsKind from [] k → IsKind to [] (carried_kind objects families [] k) → carried_kind objects families E k ≡ carried_kind objects families [] k
    closed_kind E k h h' =
        ap (λ z. carried_kind objects families z k) (sym (append_nothing E))
        ∙ ap (carried_kind objects families (E ++ [])) (sym (raise_kind_past (sorts_of from) (length E) [] 0 k (omega arith) (kind_sorted from [] k h)))
        ∙ sym (raise_kind_carried objects families bases from (sorts_of to) typed_objects typed_families E [] [] [] k refl (kind_kinded from [] k h))
        ∙ raise_kind_past (sorts_of to) (length E) [] 0 (carried_kind objects families [] k) (omega arith) (kind_sorted to [] (carried_kind objects families [] k) h')

    -- ---- variables

    one_behind : (context : Context) (b a : Family) → IsFamily from context a → family_in (b ∷ context) (raise_family 1 0 a) ≡ raise_family 1 0 (family_in context a)
    one_behind context b a h = sym (raise_family_carried objects families bases from (sorts_of to) typed_objects typed_families (erase (family_in context b) ∷ []) (types context) (erase_context context) [] a (types_are context) (family_kinded from context a h))

    variable_at : (context : Context) (i : ℕ) (f : Family) → IsContext from context → slice_get context i ≡ Some f → VariableHas (there context) i (family_in context (raise_family (suc i) 0 f))
    variable_at [] i f c e = absurd (cc)
    variable_at (b ∷ context) zero f c e =
        let same : b ≡ f = cc in
        record { family = family_in context b; found = refl; is = ap (λ z. family_in (b ∷ context) (raise_family 1 0 z)) (sym same) ∙ one_behind context b b c.1 }
    variable_at (b ∷ context) (suc i) f c e =
        let found : slice_get context i ≡ Some f = e in
        let h = variable_at context i f c.0 found in
        let is_family : IsFamily from context (raise_family (suc i) 0 f) = synthesised_is_family from source context (Var i) (raise_family (suc i) 0 f) c.0 (record { family = f; found = found; is = refl }) in
        record {
          family = h.family;
          found = h.found;
          is = ap (family_in (b ∷ context)) (sym (raise_family_twice (suc i) 1 0 0 f (omega arith) (omega arith) ∙ ap (λ k. raise_family k 0 f) (omega arith)))
              ∙ one_behind context b (raise_family (suc i) 0 f) is_family
              ∙ ap (raise_family 1 0) h.is
              ∙ raise_family_twice (suc i) 1 0 0 h.family (omega arith) (omega arith) ∙ ap (λ k. raise_family k 0 h.family) (omega arith);
        }

    variable_translated : (context : Context) (i : ℕ) (a : Family) → IsContext from context → VariableHas context i a → VariableHas (there context) i (family_in context a)
    variable_translated context i a c h = subst (λ z. VariableHas (there context) i (family_in context z)) (sym h.is) (variable_at context i h.family c h.found)

    listed_is : (context : Context) (i : ℕ) (a : Family) → IsContext to (there context) → VariableHas (there context) i a → TypedIs to (there context) a (listed_variable i (slice_get (types context) i))
    listed_is context i a c h =
        let found : slice_get (types context) i ≡ Some (erase h.family) = get_map erase (there context) i h.family h.found in
        let same : erase a ≡ erase h.family = ap erase h.is ∙ erase_map _ 0 h.family in
        subst (λ o. TypedIs to (there context) a (listed_variable i o)) (sym (found ∙ ap Some (sym same)))
        (record { type_is = refl; checks = eta_checks to target (there context) c (Var i) a h; family_is = synthesised_is_family to target (there context) (Var i) a c h })

    -- ---- objects

    -- the substitution of an argument
    pub argument_substituted : (context : Context) (m : Object) (a b : Family) → Checks from context m a → IsFamily from (a ∷ context) b
        → family_in context (substitute_family m (erase a) 0 b) ≡ substitute_family (carried objects (types context) m (erase (family_in context a))) (erase (family_in context a)) 0 (carried_family objects families (erase (family_in context a) ∷ types context) b)
    argument_substituted context m a b h f =
        family_substituted objects families bases from (sorts_of to) typed_objects typed_families (erase_context context) (types context) (types_are context) m (erase a) (checks_sort from context m a h) [] b (family_kinded from (a ∷ context) b f)
        ∙ ap (λ z. substitute_family (carried objects (types context) m z) z 0 (carried_family objects families (z ∷ types context) b)) (sym (erase_carried objects families bases images_typed.erased (types context) a))

    pub kind_argument_substituted : (context : Context) (m : Object) (a : Family) (k : Kind) → Checks from context m a → IsKind from (a ∷ context) k
        → carried_kind objects families (types context) (substitute_kind m (erase a) 0 k) ≡ substitute_kind (carried objects (types context) m (erase (family_in context a))) (erase (family_in context a)) 0 (carried_kind objects families (erase (family_in context a) ∷ types context) k)
    kind_argument_substituted context m a k h f =
        kind_substituted objects families bases from (sorts_of to) typed_objects typed_families (erase_context context) (types context) (types_are context) m (erase a) (checks_sort from context m a h) [] k (kind_kinded from (a ∷ context) k f)
        ∙ ap (λ z. substitute_kind (carried objects (types context) m z) z 0 (carried_kind objects families (z ∷ types context) k)) (sym (erase_carried objects families bases images_typed.erased (types context) a))

    family_of_body : (context : Context) (a b : Family) (n : Object) → IsContext to context → IsFamily to context (Pi a b) → Checks to context n a → IsFamily to context (substitute_family n (erase a) 0 b)
    family_of_body context a b n c f g = substitute_is_family to target context n a g [] b (context_sorted to (a ∷ context) (c, f.0)) f.1

    taken_is : (context : Context) (a b : Family) (head : Typed) (argument : Simple → Object) → IsContext to context → TypedIs to context (Pi a b) head → Checks to context (argument (erase a)) a → TypedIs to context (substitute_family (argument (erase a)) (erase a) 0 b) (takes_at_type head argument)
    taken_is context a b head argument c h g =
        subst (TypedIs to context (substitute_family (argument (erase a)) (erase a) 0 b)) (sym (typed_taken head (erase a) (erase b) argument h.type_is))
        (record {
          type_is = app_type a b head.value (argument (erase a));
          checks = app_checks to target context c a b h.family_is (argument (erase a)) g head.value h.checks;
          family_is = family_of_body context a b (argument (erase a)) c h.family_is g;
        })

    mutual
      pub checks_translated : (context : Context) (m : Object) (a : Family) → IsContext from context → IsContext to (there context) → IsFamily from context a → IsFamily to (there context) (family_in context a) → Checks from context m a → Checks to (there context) (carried objects (types context) m (erase (family_in context a))) (family_in context a)
      checks_translated context (Lam m) (Pi a b) c c' f f' h = checks_translated (a ∷ context) m b (c, f.0) (c', f'.0) f.1 f'.1 h
      checks_translated context (Lam m) (AtFamily p) c c' f f' h = absurd h
      checks_translated context (At r) (Pi a b) c c' f f' h = absurd h
      checks_translated context (At r) (AtFamily p) c c' f f' h = (synthesises_translated context r (AtFamily p) c c' h).checks

      pub synthesises_translated : (context : Context) (r : Atomic) (a : Family) → IsContext from context → IsContext to (there context) → Synthesises from context r a → TypedIs to (there context) (family_in context a) (carried_head objects (types context) r)
      synthesises_translated context (Var i) a c c' h = listed_is context i (family_in context a) c' (variable_translated context i a c h)
      synthesises_translated context (Con d) a c c' h =
          let i = images_typed.objects_typed d a h in
          subst (λ z. TypedIs to (there context) z (objects d)) (sym (closed_family (types context) a (class_is_family from source d a h) i.family_is))
          (record { type_is = i.type_is; checks = more_checks to to (λ x k e. e) [] (there context) (objects d).value (carried_family objects families [] a) i.checks; family_is = more_family to to (λ x k e. e) [] (there context) (carried_family objects families [] a) i.family_is })
      synthesises_translated context (App r m) a c c' h =
          let pi : IsFamily from context (Pi h.domain h.body) = synthesised_is_family from source context r (Pi h.domain h.body) c h.head_has in
          let head = synthesises_translated context r (Pi h.domain h.body) c c' h.head_has in
          let argument = checks_translated context m h.domain c c' pi.0 (head.family_is).0 h.argument_has in
          subst (λ z. TypedIs to (there context) z (carried_head objects (types context) (App r m))) (sym (ap (family_in context) h.is ∙ argument_substituted context m h.domain h.body h.argument_has pi.1))
          (taken_is (there context) (family_in context h.domain) (carried_family objects families (erase (family_in context h.domain) ∷ types context) h.body) (carried_head objects (types context) r) (carried objects (types context) m) c' head argument)

    -- ---- families

    pi_taken : (context : Context) → IsContext to context → (a : Family) (k : Kind) (m : Simple → Object) (binders : ℕ) (family : Family) → FamilyTyped to context binders family (PiKind a k) → IsKind to context (PiKind a k) → Checks to context (m (erase a)) a
        → PartialIs to context (substitute_kind (m (erase a)) (erase a) 0 k) (takes_at_kind binders family (PiKind a k) m)
    pi_taken context c a k m zero family f is g = record { kind_is = refl; family_typed = spine_taken to target context c family a k (m (erase a)) f g; is_kind = kind_of_body to target context c a k (m (erase a)) is g }
    pi_taken context c a k m (suc binders) family f is g = record { kind_is = refl; family_typed = binder_taken to target context c binders family a k (m (erase a)) f is g; is_kind = kind_of_body to target context c a k (m (erase a)) is g }

    partial_taken : (context : Context) → IsContext to context → (a : Family) (k : Kind) (m : Simple → Object) (head : PartialFamily) → PartialIs to context (PiKind a k) head → Checks to context (m (erase a)) a → PartialIs to context (substitute_kind (m (erase a)) (erase a) 0 k) (partial_takes head m)
    partial_taken context c a k m head h g =
        subst (λ z. PartialIs to context (substitute_kind (m (erase a)) (erase a) 0 k) (takes_at_kind head.binders head.family z m)) (sym h.kind_is) (pi_taken context c a k m head.binders head.family h.family_typed h.is_kind g)

    more_typed : (context : Context) (k : Kind) (binders : ℕ) (family : Family) → FamilyTyped to [] binders family k → FamilyTyped to context binders family k
    more_typed context k binders family (OnSpine p e f h) = OnSpine p e f (more_synthesises_kind to to (λ x l q. q) [] context p k h)
    more_typed context k binders family (UnderBinders e h) = UnderBinders e (subst (λ z. IsFamily to z family) (sym (domains_append k [] context)) (more_family to to (λ x l q. q) (with_domains k []) context family h))

    pub partial_translated : (context : Context) (p : AtomicFamily) (k : Kind) → IsContext from context → IsContext to (there context) → SynthesisesKind from context p k → PartialIs to (there context) (carried_kind objects families (types context) k) (carried_atomic objects families (types context) p)
    partial_translated context (FamilyCon d) k c c' h =
        let i = images_typed.families_typed d k h in
        subst (λ z. PartialIs to (there context) z (families d)) (sym (closed_kind (types context) k (class_is_kind from source d k h) i.is_kind))
        (record { kind_is = i.kind_is; family_typed = more_typed (there context) (carried_kind objects families [] k) (families d).binders (families d).family i.family_typed; is_kind = more_kind to to (λ x l e. e) [] (there context) (carried_kind objects families [] k) i.is_kind })
    partial_translated context (FamilyApp p m) k c c' h =
        let pi : IsKind from context (PiKind h.domain h.body) = synthesised_is_kind from source context p (PiKind h.domain h.body) c h.head_has in
        let head = partial_translated context p (PiKind h.domain h.body) c c' h.head_has in
        let argument = checks_translated context m h.domain c c' pi.0 (head.is_kind).0 h.argument_has in
        subst (λ z. PartialIs to (there context) z (carried_atomic objects families (types context) (FamilyApp p m))) (sym (ap (carried_kind objects families (types context)) h.is ∙ kind_argument_substituted context m h.domain h.body h.argument_has pi.1))
        (partial_taken (there context) c' (family_in context h.domain) (carried_kind objects families (erase (family_in context h.domain) ∷ types context) h.body) (carried objects (types context) m) (carried_atomic objects families (types context) p) head argument)

    pub family_translated : (context : Context) (a : Family) → IsContext from context → IsContext to (there context) → IsFamily from context a → IsFamily to (there context) (family_in context a)
    family_translated context (Pi a b) c c' h =
        let first = family_translated context a c c' h.0 in
        (first, family_translated (a ∷ context) b (c, h.0) (c', first) h.1)
    family_translated context (AtFamily p) c c' h =
        let head = partial_translated context p Ty c c' h in
        family_whole to (there context) (carried_atomic objects families (types context) p).binders (carried_atomic objects families (types context) p).family head.family_typed

    pub kind_translated : (context : Context) (k : Kind) → IsContext from context → IsContext to (there context) → IsKind from context k → IsKind to (there context) (carried_kind objects families (types context) k)
    kind_translated context Ty c c' h = h
    kind_translated context (PiKind a k) c c' h =
        let first = family_translated context a c c' h.0 in
        (first, kind_translated (a ∷ context) k (c, h.0) (c', first) h.1)

    pub context_translated : (context : Context) → IsContext from context → IsContext to (there context)
    context_translated [] h = h
    context_translated (a ∷ context) h = let rest = context_translated context h.0 in (rest, family_translated context a h.0 rest h.1)
