-- Translation along a map into a signature brings only constants of that signature.
use Rattle.std.proofs.Common.{◌≡◌, ℕ, zero, suc, ◌+◌, ◌<◌, Bool, true, false, cond, List, [], ◌∷◌, map, slice_get, Option, Some, None, refl, sym, ap, ◌∙◌, subst, arith}
use Rattle.lf_meaning.specs.Terms.{Constant, Object, Lam, At, Var, Con, App, Family, Pi, AtFamily, AtomicFamily, FamilyCon, FamilyApp, Kind, Ty, PiKind, family_argument_count, domain_count}
use Rattle.lf_meaning.specs.Erasure.{head_constant, erase}
use Rattle.lf_meaning.specs.Signatures.{Class, FamilyClass, KindClass, Value, SameAs, TermValue, FamilyValue, Declaration, Signature, same_constant, declaration_of, undefined_class, declared_class, class_of}
use Rattle.lf_meaning.specs.Substitution.{substitute, substitute_kind}
use Rattle.lf_meaning.specs.Replacement.{of_constants}
use Rattle.translation_meaning.specs.Heads.{Head, ObjectHead, FamilyHead, family_head_takes, head_takes}
use Rattle.lf_meaning.specs.HeadMaps.{Mapping, HeadMap, image_of}
use Rattle.translation_meaning.specs.Translation.{object_image, headed_image, translate_object, family_image, family_head_image, translate_head, family_of, translate_family, translate_kind, translate_class, object_value, family_value, same_image, translate_value, translate_image, compose}
use Rattle.translation_meaning.specs.ProperValues.{IsValueBody}
use Rattle.library_meaning.specs.Holding.{IsObjectConstant, IsFamilyConstant, ObjectHolds, ArgumentsHold, FamilyHolds, KindHolds, ClassHolds, ValueHolds, AlikeClasses}
use Rattle.library_meaning.specs.Coherence.{declared_names, mapped_names}
use Rattle.translation_meaning.specs.AtomicFamilies.{IsAtomicFamily}
use Rattle.constant_laws.specs.TranslationHolds.{MapsInto, CoherentMapsInto, CompositionIsCoherent}
use Rattle.constant_laws.proofs.Replaced.{HeadedHolds, action_holds, replace_holds}
use Rattle.constant_laws.specs.HeadsHold.{PartlyHolds, HeadHolds}
use Rattle.constant_laws.proofs.Heads.{head_taken, whole_holds, whole_atomic, object_anywhere, kind_anywhere, family_value_partly, constant_partly}
use Rattle.std.proofs.lemmas.Option.{same_Some}
use Rattle.list_laws.proofs.Lists.{first_same, rest_same}
use Rattle.lf_term_laws.proofs.Spines.{domain_count_map}

-- ---- values

pub object_value_holds : (signature : Signature) (a : Family) (m : Object) → ObjectHolds signature 0 m → ValueHolds signature (FamilyClass a) (object_value m)
object_value_holds signature a (Lam body) h = (h, tt)
object_value_holds signature a (At (Var i)) h = (h, tt)
object_value_holds signature a (At (Con c)) h = h
object_value_holds signature a (At (App r m)) h = (h, tt)

pub family_value_holds : (signature : Signature) (kind : Kind) (n : ℕ) (body : Family) → n ≡ domain_count kind → IsAtomicFamily body → FamilyHolds signature n body → ValueHolds signature (KindClass kind) (family_value n body)
family_value_holds signature kind zero (Pi domain body) e a h = absurd a
family_value_holds signature kind zero (AtFamily (FamilyCon c)) e a h = subst (IsFamilyConstant signature c) e h.0
family_value_holds signature kind zero (AtFamily (FamilyApp p m)) e a h = (e, h, tt)
family_value_holds signature kind (suc n) (Pi domain body) e a h = absurd a
family_value_holds signature kind (suc n) (AtFamily (FamilyCon c)) e a h = (e, h, omega arith)
family_value_holds signature kind (suc n) (AtFamily (FamilyApp p m)) e a h = (e, h, tt)

-- a value holds at any class of the same level and number of domains
pub value_at_alike : (signature : Signature) (class other : Class) (value : Value) → AlikeClasses class other → ValueHolds signature class value → ValueHolds signature other value
value_at_alike signature (FamilyClass a) (FamilyClass b) (SameAs c) k h = h
value_at_alike signature (FamilyClass a) (FamilyClass b) (TermValue m) k h = h
value_at_alike signature (FamilyClass a) (FamilyClass b) (FamilyValue n body) k h = h
value_at_alike signature (FamilyClass a) (KindClass l) value k h = absurd k
value_at_alike signature (KindClass j) (FamilyClass b) value k h = absurd k
value_at_alike signature (KindClass j) (KindClass l) (SameAs c) k h = subst (IsFamilyConstant signature c) k h
value_at_alike signature (KindClass j) (KindClass l) (TermValue m) k h = h
value_at_alike signature (KindClass j) (KindClass l) (FamilyValue n body) k h = (h.0 ∙ k, h.1, h.2)

pub alike_through : (class middle other : Class) → AlikeClasses class middle → AlikeClasses middle other → AlikeClasses class other
alike_through (FamilyClass a) (FamilyClass b) (FamilyClass c) h g = tt
alike_through (FamilyClass a) (FamilyClass b) (KindClass l) h g = absurd g
alike_through (FamilyClass a) (KindClass k) other h g = absurd h
alike_through (KindClass j) (FamilyClass b) other h g = absurd h
alike_through (KindClass j) (KindClass k) (FamilyClass c) h g = absurd g
alike_through (KindClass j) (KindClass k) (KindClass l) h g = h ∙ g

pub alike_back : (class other : Class) → AlikeClasses class other → AlikeClasses other class
alike_back (FamilyClass a) (FamilyClass b) h = tt
alike_back (FamilyClass a) (KindClass l) h = absurd h
alike_back (KindClass k) (FamilyClass b) h = absurd h
alike_back (KindClass k) (KindClass l) h = sym h

pub translated_domains : (along : HeadMap) (k : Kind) → domain_count (translate_kind along k) ≡ domain_count k
unfolding translate_kind
translated_domains along Ty = refl
translated_domains along (PiKind domain kind) = ap suc (translated_domains along kind)

pub translated_alike : (along : HeadMap) (class : Class) → AlikeClasses (translate_class along class) class
translated_alike along (FamilyClass family) = tt
translated_alike along (KindClass kind) = translated_domains along kind

module _ (from to : Signature) (along : HeadMap) (into : MapsInto from to along) where
  -- ---- objects

  object_image_holds : (w : ℕ) (c : Constant) (class : Class) (value : Value) (family : Family) → ValueHolds to class value → AlikeClasses class (FamilyClass family) → HeadedHolds to w (object_image c class value)
  object_image_holds w c (FamilyClass a) (SameAs d) family h k = h
  object_image_holds w c (FamilyClass a) (TermValue m) family h k = (object_anywhere to m w h.0, action_holds to (erase a))
  object_image_holds w c (FamilyClass a) (FamilyValue n body) family h k = absurd h
  object_image_holds w c (KindClass l) value family h k = absurd k

  constant_holds : (w : ℕ) (c : Constant) → IsObjectConstant from c → HeadedHolds to w (headed_image c (image_of along c))
  constant_holds w c h =
      let i = into c (FamilyClass h.0) h.1 in
      subst (λ o. HeadedHolds to w (headed_image c o)) (sym i.is) (object_image_holds w c i.image.class i.image.value h.0 i.value_holds i.alike)

  pub object_translated : (m : Object) (v : ℕ) → ObjectHolds from v m → ObjectHolds to v (translate_object along m)
  unfolding translate_object
  object_translated m v h =
      replace_holds from to (of_constants (λ (c : Constant). headed_image c (image_of along c))) (λ n w u. w ≡ u) (λ n w u e. ap suc e)
      (λ n w u i e l. subst (λ z. i < z) e l) (λ n w u c e g. constant_holds u c g) m 0 v v refl h

  -- ---- families

  abbrev MissesStill : ℕ → ℕ → Head → Type 0
  MissesStill v rest (ObjectHead object classifier) = ⊥
  MissesStill v rest (FamilyHead binders family kind) = HeadHolds to v (FamilyHead binders family kind) × (domain_count kind ≡ rest)

  family_image_holds : (v rest : ℕ) (c : Constant) (class : Class) (value : Value) (kind : Kind) → ClassHolds to class → ValueHolds to class value → AlikeClasses class (KindClass kind) → domain_count kind ≡ rest → MissesStill v rest (family_image c class value)
  family_image_holds v rest c (FamilyClass a) value kind g h k e = absurd k
  family_image_holds v rest c (KindClass l) (SameAs d) kind g h k e = ((constant_partly to v d l h, kind_anywhere to l v g), k ∙ e)
  family_image_holds v rest c (KindClass l) (TermValue m) kind g h k e = absurd h
  family_image_holds v rest c (KindClass l) (FamilyValue n body) kind g h k e = ((family_value_partly to v n body l h, kind_anywhere to l v g), k ∙ e)

  takes_still : (v rest : ℕ) (head : Head) (m : Object) → MissesStill v (suc rest) head → ObjectHolds to v m → MissesStill v rest (head_takes head m)
  takes_still v rest (ObjectHead object classifier) m h g = absurd h
  takes_still v rest (FamilyHead binders family Ty) m h g = absurd (let e = h.1 in omega (arith, e))
  takes_still v rest (FamilyHead binders family (PiKind a k)) m h g =
      by binders (head_taken to v (FamilyHead binders family (PiKind a k)) m a refl h.0 g) (let e = h.1 in domain_count_map (substitute m (erase a)) 0 k ∙ omega (arith, e))
    where
      by : (b : ℕ) → HeadHolds to v (family_head_takes b family a k m) → domain_count (substitute_kind m (erase a) 0 k) ≡ rest → MissesStill v rest (family_head_takes b family a k m)
      by zero q e = (q, e)
      by (suc b) q e = (q, e)

  head_translated : (p : AtomicFamily) (v rest : ℕ) → IsFamilyConstant from (head_constant p) (family_argument_count p + rest) → ArgumentsHold from v p → MissesStill v rest (translate_head along p)
  unfolding translate_head
  head_translated (FamilyCon c) v rest h g =
      let i = into c (KindClass h.0) h.1 in
      subst (λ o. MissesStill v rest (family_head_image c o)) (sym i.is)
      (family_image_holds v rest c i.image.class i.image.value h.0 i.class_holds i.value_holds i.alike (let e = h.2 in e ∙ omega arith))
  head_translated (FamilyApp p m) v rest h g =
      takes_still v rest (translate_head along p) (translate_object along m)
      (head_translated p v (suc rest) (subst (IsFamilyConstant from (head_constant p)) (omega arith) h) g.0)
      (object_translated m v g.1)

  family_whole : (v : ℕ) (head : Head) (p : AtomicFamily) → MissesStill v 0 head → FamilyHolds to v (family_of head p) × IsAtomicFamily (family_of head p)
  family_whole v (ObjectHead object classifier) p h = absurd h
  family_whole v (FamilyHead binders family kind) p h =
      let q : PartlyHolds to v binders 0 family = subst (λ n. PartlyHolds to v binders n family) h.1 (h.0).0 in
      (whole_holds to v binders family q, whole_atomic to v binders 0 family q)

  at_family : (p : AtomicFamily) (v : ℕ) → FamilyHolds from v (AtFamily p) → FamilyHolds to v (family_of (translate_head along p) p) × IsAtomicFamily (family_of (translate_head along p) p)
  at_family p v h = family_whole v (translate_head along p) p (head_translated p v 0 (subst (IsFamilyConstant from (head_constant p)) (omega arith) h.0) h.1)

  pub family_translated : (a : Family) (v : ℕ) → FamilyHolds from v a → FamilyHolds to v (translate_family along a)
  unfolding translate_family
  family_translated (Pi domain body) v h = (family_translated domain v h.0, family_translated body (suc v) h.1)
  family_translated (AtFamily p) v h = (at_family p v h).0

  atomic_translated : (a : Family) (v : ℕ) → IsAtomicFamily a → FamilyHolds from v a → IsAtomicFamily (translate_family along a)
  unfolding translate_family
  atomic_translated (Pi domain body) v a h = absurd a
  atomic_translated (AtFamily p) v a h = (at_family p v h).1

  pub kind_translated : (k : Kind) (v : ℕ) → KindHolds from v k → KindHolds to v (translate_kind along k)
  unfolding translate_kind
  kind_translated Ty v h = tt
  kind_translated (PiKind domain kind) v h = (family_translated domain v h.0, kind_translated kind (suc v) h.1)

  pub class_translated : (class : Class) → ClassHolds from class → ClassHolds to (translate_class along class)
  class_translated (FamilyClass family) h = family_translated family 0 h
  class_translated (KindClass kind) h = kind_translated kind 0 h

  body_atomic : (n : ℕ) (body : Family) → IsValueBody n body → IsAtomicFamily body
  body_atomic n (Pi domain body) h = absurd h
  body_atomic n (AtFamily p) h = tt

  same_translated : (class : Class) (c : Constant) (found : Class) → class_of from c ≡ Some found → AlikeClasses found class → ValueHolds to (translate_class along class) (same_image c (image_of along c))
  same_translated class c found e k =
      let i = into c found e in
      subst (λ o. ValueHolds to (translate_class along class) (same_image c o)) (sym i.is)
      (value_at_alike to i.image.class (translate_class along class) i.image.value
      (alike_through i.image.class found (translate_class along class) i.alike (alike_through found class (translate_class along class) k (alike_back (translate_class along class) class (translated_alike along class)))) i.value_holds)

  pub value_translated : (class : Class) (value : Value) → ValueHolds from class value → ValueHolds to (translate_class along class) (translate_value along value)
  unfolding translate_value
  value_translated (FamilyClass family) (SameAs c) h = same_translated (FamilyClass family) c (FamilyClass h.0) h.1 tt
  value_translated (KindClass kind) (SameAs c) h = same_translated (KindClass kind) c (KindClass h.0) h.1 h.2
  value_translated (FamilyClass family) (TermValue m) h = object_value_holds to (translate_family along family) (translate_object along m) (object_translated m 0 h.0)
  value_translated (KindClass kind) (TermValue m) h = absurd h
  value_translated (FamilyClass family) (FamilyValue n body) h = absurd h
  value_translated (KindClass kind) (FamilyValue n body) h =
      family_value_holds to (translate_kind along kind) n (translate_family along body) (h.0 ∙ sym (translated_domains along kind)) (atomic_translated body n (body_atomic n body h.2) h.1) (family_translated body n h.1)

-- ---- coherent maps

pub record Placed (from : Signature) (along : HeadMap) (c : Constant) (d : Declaration) : Type 0 where
  pub place : ℕ
  pub mapping : Mapping
  pub declared : slice_get from place ≡ Some d
  pub mapped : slice_get along place ≡ Some mapping
  pub image : image_of along c ≡ Some mapping.image

module _ (c : Constant) (d : Declaration) where
  placed_by : (b : Bool) (x : Declaration) (xs : Signature) (m : Mapping) (ms : HeadMap) → same_constant m.name c ≡ b → cond b (Some x) (declaration_of xs c) ≡ Some d → (declaration_of xs c ≡ Some d → Placed xs ms c d) → Placed (x ∷ xs) (m ∷ ms) c d
  unfolding image_of
  placed_by true x xs m ms e h f = record { place = zero; mapping = m; declared = h; mapped = refl; image = ap (λ b. cond b (Some m.image) (image_of ms c)) e }
  placed_by false x xs m ms e h f =
      let p = f h in
      record { place = suc p.place; mapping = p.mapping; declared = p.declared; mapped = p.mapped; image = ap (λ b. cond b (Some m.image) (image_of ms c)) e ∙ p.image }

  pub placed_in : (from : Signature) (along : HeadMap) → mapped_names along ≡ declared_names from → declaration_of from c ≡ Some d → Placed from along c d
  placed_in [] along e h = absurd (cc)
  placed_in (x ∷ xs) [] e h = absurd (cc)
  placed_in (x ∷ xs) (m ∷ ms) e h =
      placed_by (same_constant m.name c) x xs m ms refl (ap (λ z. cond (same_constant z c) (Some x) (declaration_of xs c)) (first_same e) ∙ h) (placed_in xs ms (rest_same e))

class_declared : (o : Option Declaration) (class : Class) → declared_class o ≡ Some class → (d : Declaration) × (o ≡ Some d) × (class ≡ d.class)
class_declared None class h = absurd (cc)
class_declared (Some d) class h = (d, refl, by d.value h)
  where
    by : (o : Option Value) → undefined_class o d.class ≡ Some class → class ≡ d.class
    by None e = same_Some _ _ (sym e)
    by (Some v) e = absurd (cc)

pub coherent_maps_into : CoherentMapsInto
coherent_maps_into from to along k c class h =
    let d = class_declared (declaration_of from c) class h in
    let p = placed_in c d.0 from along k.names d.1 in
    let q = k.holds p.place p.mapping p.mapped in
    record { image = p.mapping.image; is = p.image; class_holds = q.0; value_holds = q.1; alike = subst (AlikeClasses p.mapping.image.class) (sym d.2) (k.alike p.place p.mapping d.0 p.mapped p.declared) }

mapped_at : {A B : Type 0} (f : A → B) (xs : List A) (i : ℕ) (y : B) → slice_get (map f xs) i ≡ Some y → (x : A) × (slice_get xs i ≡ Some x) × (y ≡ f x)
mapped_at f [] i y h = absurd (cc)
mapped_at f (x ∷ xs) zero y h = (x, refl, same_Some _ _ (sym h))
mapped_at f (x ∷ xs) (suc i) y h = mapped_at f xs i y h

composed_names : (first second : HeadMap) → mapped_names (compose first second) ≡ mapped_names first
unfolding compose
composed_names [] second = refl
composed_names (m ∷ ms) second = ap (λ z. m.name ∷ z) (composed_names ms second)

pub composition_is_coherent : CompositionIsCoherent
unfolding compose
composition_is_coherent from middle to first second k l =
    record {
      names = composed_names first second ∙ k.names;
      holds = λ i m h.
          let x = mapped_at (λ (mapping : Mapping). record { name = mapping.name; image = translate_image second mapping.image }) first i m h in
          let q = k.holds i x.0 x.1 in
          subst (λ (z : Mapping). ClassHolds to z.image.class × ValueHolds to z.image.class z.image.value) (sym x.2)
          (class_translated middle to second (coherent_maps_into middle to second l) x.0.image.class q.0, value_translated middle to second (coherent_maps_into middle to second l) x.0.image.class x.0.image.value q.1);
      alike = λ i m d h g.
          let x = mapped_at (λ (mapping : Mapping). record { name = mapping.name; image = translate_image second mapping.image }) first i m h in
          subst (λ (z : Mapping). AlikeClasses z.image.class d.class) (sym x.2)
          (alike_through (translate_class second x.0.image.class) x.0.image.class d.class (translated_alike second x.0.image.class) (k.alike i x.0 d x.1 g));
    }
