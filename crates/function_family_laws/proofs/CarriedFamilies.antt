-- Translation of families and kinds: erasure, raising, sorts, substitution.
use Rattle.std.proofs.Common.{◌≡◌, ℕ, suc, List, [], ◌∷◌, ◌++◌, length, map, Some, refl, sym, ap, ap₂, subst, ◌∙◌}
use Rattle.lf_meaning.specs.Terms.{Constant, Object, Family, Pi, AtFamily, AtomicFamily, FamilyCon, FamilyApp, Kind, Ty, PiKind, Simple, Arrow, SimpleContext}
use Rattle.lf_meaning.specs.Erasure.{erase, head_constant}
use Rattle.lf_meaning.specs.Raising.{raise, raise_family, raise_kind, raise_atomic_family}
use Rattle.lf_meaning.specs.Substitution.{Typed, substitute, substitute_family, substitute_atomic_family, substitute_kind}
use Rattle.lf_meaning.specs.Signatures.{Signature, class_of}
use Rattle.lf_meaning.specs.Sorts.{Sorts, HasSort, IsSortedFamily, IsSortedKind, sorts_of}
use Rattle.lf_substitution_laws.proofs.Families.{erase_map}
use Rattle.lf_term_laws.proofs.Lookups.{length_map}
use Rattle.translation_typing.specs.KindedFamilies.{class_domains, HasDomains, IsKinded, IsKindedKind}
use Rattle.translation_meaning.specs.FunctionFamilies.{with_bases, carried, PartialFamily, partial_takes, carried_atomic, carried_family, carried_kind}
use Rattle.function_family_laws.proofs.CarriedObjects.{AreTypedObjects, raise_carried, carried_has_sort, carried_commutes}
use Rattle.function_family_laws.proofs.PartialFamilies.{erase_takes, map_partial, raise_partial_takes, PartialFits, BodyFits, OnSpine, ForBinders, takes_fits, no_binder, family_of_map, more_fits, raise_closed, substitute_closed, takes_substituted}

module _ (objects : Constant → Typed) (families : Constant → PartialFamily) (bases : Constant → Simple) (erased : (c : Constant) → erase (families c).family ≡ bases c) where
  erase_partial : (E : SimpleContext) (p : AtomicFamily) → erase (carried_atomic objects families E p).family ≡ bases (head_constant p)
  erase_partial E (FamilyCon c) = erased c
  erase_partial E (FamilyApp p m) = erase_takes (carried_atomic objects families E p) (carried objects E m) ∙ erase_partial E p

  -- erasure commutes with the translation of simple types
  pub erase_carried : (E : SimpleContext) (a : Family) → erase (carried_family objects families E a) ≡ with_bases bases (erase a)
  erase_carried E (Pi a b) = ap₂ Arrow (erase_carried E a) (erase_carried (erase (carried_family objects families E a) ∷ E) b)
  erase_carried E (AtFamily p) = erase_partial E p

-- what a family constant stands for has the domains of its kind
pub record AreTypedFamilies (families : Constant → PartialFamily) (bases : Constant → Simple) (from : Signature) (sorts' : Sorts) : Type 0 where
  pub erased : (c : Constant) → erase (families c).family ≡ bases c
  pub fits : (c : Constant) (rest : List Simple) → class_domains (class_of from c) ≡ Some rest → PartialFits sorts' [] (map (with_bases bases) rest) (families c)

module _ (objects : Constant → Typed) (families : Constant → PartialFamily) (bases : Constant → Simple) (from : Signature) (sorts' : Sorts) (objects_typed : AreTypedObjects objects bases (sorts_of from) sorts') (families_typed : AreTypedFamilies families bases from sorts') where
  abbrev re : Simple → Simple
  re = with_bases bases

  -- ---- sorts

  pub partial_fits : (D E : SimpleContext) (p : AtomicFamily) (rest : List Simple) → E ≡ map re D → HasDomains from D p rest → PartialFits sorts' E (map re rest) (carried_atomic objects families E p)
  partial_fits D E (FamilyCon c) rest e h = more_fits sorts' E (map re rest) (families c) (families_typed.fits c rest h)
  partial_fits D E (FamilyApp p m) rest e h =
      takes_fits sorts' E (carried_atomic objects families E p) (carried objects E m) (re h.domain) (map re rest) (partial_fits D E p (h.domain ∷ rest) e h.head_has) (carried_has_sort objects bases (sorts_of from) sorts' objects_typed D E m h.domain e h.argument_has)

  abbrev types_behind : Family → SimpleContext → SimpleContext
  types_behind a E = erase (carried_family objects families E a) ∷ E

  types_behind_are : (D E : SimpleContext) (a : Family) → E ≡ map re D → types_behind a E ≡ map re (erase a ∷ D)
  types_behind_are D E a e = ap₂ (λ s ss. s ∷ ss) (erase_carried objects families bases families_typed.erased E a) e

  pub family_sorted : (D E : SimpleContext) (a : Family) → E ≡ map re D → IsKinded from D a → IsSortedFamily sorts' E (carried_family objects families E a)
  family_sorted D E (Pi a b) e h = (family_sorted D E a e h.0, family_sorted (erase a ∷ D) (types_behind a E) b (types_behind_are D E a e) h.1)
  family_sorted D E (AtFamily p) e h = whole (partial_fits D E p [] e h).body
    where
      whole : BodyFits sorts' E [] (carried_atomic objects families E p).binders (carried_atomic objects families E p).family → IsSortedFamily sorts' E (carried_atomic objects families E p).family
      whole (OnSpine q c f i) = subst (IsSortedFamily sorts' E) (sym f) i
      whole (ForBinders c i) = i

  pub kind_sorted : (D E : SimpleContext) (k : Kind) → E ≡ map re D → IsKindedKind from D k → IsSortedKind sorts' E (carried_kind objects families E k)
  kind_sorted D E Ty e h = tt
  kind_sorted D E (PiKind a k) e h = (family_sorted D E a e h.0, kind_sorted (erase a ∷ D) (types_behind a E) k (types_behind_are D E a e) h.1)

  -- ---- raising

  module _ (mid before : SimpleContext) where
    abbrev types_between : SimpleContext → SimpleContext
    types_between after = after ++ (mid ++ before)

    raise_any : (after D : SimpleContext) (m : Object) (s t : Simple) → HasSort (sorts_of from) D m s → raise (length mid) (length after) (carried objects (after ++ before) m t) ≡ carried objects (types_between after) (raise (length mid) (length after) m) t
    raise_any after D m s t h = raise_carried objects bases (sorts_of from) sorts' objects_typed mid before after D m s t h

    pub raise_partial : (D after : SimpleContext) (p : AtomicFamily) (rest : List Simple) → HasDomains from D p rest
        → map_partial (raise (length mid)) (length after) (carried_atomic objects families (after ++ before) p) ≡ carried_atomic objects families (types_between after) (raise_atomic_family (length mid) (length after) p)
    raise_partial D after (FamilyCon c) rest h = raise_closed sorts' (map re rest) (length mid) (length after) (families c) (families_typed.fits c rest h)
    raise_partial D after (FamilyApp p m) rest h =
        raise_partial_takes (length mid) (length after) (carried_atomic objects families (after ++ before) p) (carried objects (after ++ before) m) (carried objects (types_between after) (raise (length mid) (length after) m)) (λ t. raise_any after D m h.domain t h.argument_has)
        ∙ ap (λ z. partial_takes z (carried objects (types_between after) (raise (length mid) (length after) m))) (raise_partial D after p (h.domain ∷ rest) h.head_has)

    -- the erasure of a raised family is that of the family
    erase_raised : (after : SimpleContext) (a : Family) → erase (carried_family objects families (types_between after) (raise_family (length mid) (length after) a)) ≡ erase (carried_family objects families (after ++ before) a)
    erase_raised after a =
        erase_carried objects families bases families_typed.erased (types_between after) (raise_family (length mid) (length after) a)
        ∙ ap re (erase_map (raise (length mid)) (length after) a)
        ∙ sym (erase_carried objects families bases families_typed.erased (after ++ before) a)

    pub raise_family_carried : (D after : SimpleContext) (a : Family) → after ++ before ≡ map re D → IsKinded from D a
        → raise_family (length mid) (length after) (carried_family objects families (after ++ before) a) ≡ carried_family objects families (types_between after) (raise_family (length mid) (length after) a)
    raise_family_carried D after (Pi a b) e h =
        let s : Simple = erase (carried_family objects families (after ++ before) a) in
        ap₂ Pi (raise_family_carried D after a e h.0)
        (raise_family_carried (erase a ∷ D) (s ∷ after) b (types_behind_are D (after ++ before) a e) h.1
        ∙ ap (λ z. carried_family objects families (z ∷ types_between after) (raise_family (length mid) (suc (length after)) b)) (sym (erase_raised after a)))
    raise_family_carried D after (AtFamily p) e h =
        sym (family_of_map (raise (length mid)) (length after) (carried_atomic objects families (after ++ before) p) (no_binder sorts' (after ++ before) (carried_atomic objects families (after ++ before) p) (partial_fits D (after ++ before) p [] e h)))
        ∙ ap (λ (z : PartialFamily). z.family) (raise_partial D after p [] h)

    pub raise_kind_carried : (D after : SimpleContext) (k : Kind) → after ++ before ≡ map re D → IsKindedKind from D k
        → raise_kind (length mid) (length after) (carried_kind objects families (after ++ before) k) ≡ carried_kind objects families (types_between after) (raise_kind (length mid) (length after) k)
    raise_kind_carried D after Ty e h = refl
    raise_kind_carried D after (PiKind a k) e h =
        let s : Simple = erase (carried_family objects families (after ++ before) a) in
        ap₂ PiKind (raise_family_carried D after a e h.0)
        (raise_kind_carried (erase a ∷ D) (s ∷ after) k (types_behind_are D (after ++ before) a e) h.1
        ∙ ap (λ z. carried_kind objects families (z ∷ types_between after) (raise_kind (length mid) (suc (length after)) k)) (sym (erase_raised after a)))

  -- ---- substitution

  module _ (D E : SimpleContext) (place : E ≡ map re D) (v : Object) (u : Simple) (sorted : HasSort (sorts_of from) D v u) where
    abbrev v' : Object
    v' = carried objects E v (re u)

    abbrev types_without : SimpleContext → SimpleContext
    types_without after = map re after ++ E

    abbrev types_with : SimpleContext → SimpleContext
    types_with after = map re after ++ (re u ∷ E)

    types_with_are : (after : SimpleContext) → types_with after ≡ map re (after ++ (u ∷ D))
    types_with_are [] = ap (λ z. re u ∷ z) place
    types_with_are (s ∷ after) = ap (λ z. re s ∷ z) (types_with_are after)

    substitute_partial : (after : SimpleContext) (p : AtomicFamily) (rest : List Simple) → HasDomains from (after ++ (u ∷ D)) p rest
        → map_partial (substitute v' (re u)) (length after) (carried_atomic objects families (types_with after) p) ≡ carried_atomic objects families (types_without after) (substitute_atomic_family v u (length after) p)
    substitute_partial after (FamilyCon c) rest h = substitute_closed sorts' (map re rest) v' (re u) (length after) (families c) (families_typed.fits c rest h)
    substitute_partial after (FamilyApp p m) rest h =
        takes_substituted sorts' (map re after) E v' (re u) (carried_has_sort objects bases (sorts_of from) sorts' objects_typed D E v u place sorted) (carried_atomic objects families (types_with after) p) (carried objects (types_with after) m) (carried objects (types_without after) (substitute v u (length after) m)) (re h.domain) (map re rest) (length after) (sym (length_map re after))
        (partial_fits (after ++ (u ∷ D)) (types_with after) p (h.domain ∷ rest) (types_with_are after) h.head_has)
        (carried_has_sort objects bases (sorts_of from) sorts' objects_typed (after ++ (u ∷ D)) (types_with after) m h.domain (types_with_are after) h.argument_has)
        (sym (carried_commutes objects bases (sorts_of from) sorts' objects_typed after D E v m u h.domain place sorted h.argument_has))
        ∙ ap (λ z. partial_takes z (carried objects (types_without after) (substitute v u (length after) m))) (substitute_partial after p (h.domain ∷ rest) h.head_has)

    -- behind a Π: the listed simple type is that of the source's domain
    behind : (E : SimpleContext) (a b : Family) → carried_family objects families (types_behind a E) b ≡ carried_family objects families (re (erase a) ∷ E) b
    behind E a b = ap (λ z. carried_family objects families (z ∷ E) b) (erase_carried objects families bases families_typed.erased E a)

    behind_kind : (E : SimpleContext) (a : Family) (k : Kind) → carried_kind objects families (types_behind a E) k ≡ carried_kind objects families (re (erase a) ∷ E) k
    behind_kind E a k = ap (λ z. carried_kind objects families (z ∷ E) k) (erase_carried objects families bases families_typed.erased E a)

    pub family_substituted : (after : SimpleContext) (a : Family) → IsKinded from (after ++ (u ∷ D)) a → carried_family objects families (types_without after) (substitute_family v u (length after) a) ≡ substitute_family v' (re u) (length after) (carried_family objects families (types_with after) a)
    family_substituted after (Pi a b) h =
        let n : ℕ = length after in
        ap₂ Pi (family_substituted after a h.0)
        (behind (types_without after) (substitute_family v u n a) (substitute_family v u (suc n) b)
        ∙ ap (λ z. carried_family objects families (re z ∷ types_without after) (substitute_family v u (suc n) b)) (erase_map (substitute v u) n a)
        ∙ family_substituted (erase a ∷ after) b h.1
        ∙ ap (substitute_family v' (re u) (suc n)) (sym (behind (types_with after) a b)))
    family_substituted after (AtFamily p) h =
        sym (ap (λ (z : PartialFamily). z.family) (substitute_partial after p [] h))
        ∙ family_of_map (substitute v' (re u)) (length after) (carried_atomic objects families (types_with after) p) (no_binder sorts' (types_with after) (carried_atomic objects families (types_with after) p) (partial_fits (after ++ (u ∷ D)) (types_with after) p [] (types_with_are after) h))

    pub kind_substituted : (after : SimpleContext) (k : Kind) → IsKindedKind from (after ++ (u ∷ D)) k → carried_kind objects families (types_without after) (substitute_kind v u (length after) k) ≡ substitute_kind v' (re u) (length after) (carried_kind objects families (types_with after) k)
    kind_substituted after Ty h = refl
    kind_substituted after (PiKind a k) h =
        let n : ℕ = length after in
        ap₂ PiKind (family_substituted after a h.0)
        (behind_kind (types_without after) (substitute_family v u n a) (substitute_kind v u (suc n) k)
        ∙ ap (λ z. carried_kind objects families (re z ∷ types_without after) (substitute_kind v u (suc n) k)) (erase_map (substitute v u) n a)
        ∙ kind_substituted (erase a ∷ after) k h.1
        ∙ ap (substitute_kind v' (re u) (suc n)) (sym (behind_kind (types_with after) a k)))
