-- Translation commutes with raising and with substitution, where the map has typed images of the constants, and no others.
use Rattle.std.proofs.Common.{◌≡◌, ℕ, suc, List, [], ◌∷◌, ◌++◌, length, map, refl, sym, ap, ap₂, ◌∙◌, subst}
use Rattle.lf_meaning.specs.Terms.{Object, Family, Pi, AtFamily, AtomicFamily, FamilyCon, FamilyApp, Kind, Ty, PiKind, Simple, SimpleContext}
use Rattle.lf_meaning.specs.Erasure.{erase}
use Rattle.lf_meaning.specs.Raising.{raise, raise_family, raise_atomic_family, raise_kind}
use Rattle.lf_meaning.specs.Substitution.{substitute, substitute_family, substitute_atomic_family, substitute_kind}
use Rattle.lf_meaning.specs.Signatures.{Signature}
use Rattle.lf_meaning.specs.Sorts.{HasSort, sorts_of}
use Rattle.lf_substitution_laws.proofs.Constants.{constants_raise, constants_commute}
use Rattle.translation_meaning.specs.Heads.{head_takes}
use Rattle.lf_meaning.specs.HeadMaps.{HeadMap}
use Rattle.translation_meaning.specs.Translation.{translate_object, translate_head, translate_family, translate_kind, family_of}
use Rattle.translation_typing.specs.KindedFamilies.{HasDomains, IsKinded, IsKindedKind}
use Rattle.translation_typing.proofs.Bases.{bases, renamed}
use Rattle.translation_typing.proofs.Images.{IsMap, by_images, sorted_map}
use Rattle.translation_typing.proofs.HeadSorts.{HeadFits, object_sorted, head_fits, constant_head_fits}
use Rattle.translation_typing.proofs.MappedHeads.{map_head, family_of_map, raise_taken, substitute_taken, raise_closed_head, substitute_closed_head}

module _ (from to : Signature) (along : HeadMap) (map_is : IsMap from to along) where
  -- ---- raising

  pub raise_translated : (k n : ℕ) (m : Object) → translate_object along (raise k n m) ≡ raise k n (translate_object along m)
  unfolding translate_object
  raise_translated k n m = sym (constants_raise (by_images along) (bases along) (sorts_of from) (sorts_of to) (sorted_map from to along map_is) k n m)

  raise_head_translated : (k n : ℕ) (context : SimpleContext) (p : AtomicFamily) (rest : List Simple) → HasDomains from context p rest → translate_head along (raise_atomic_family k n p) ≡ map_head (raise k) n (translate_head along p)
  unfolding translate_head
  raise_head_translated k n context (FamilyCon c) rest h = sym (raise_closed_head to (map (renamed along) rest) k n (translate_head along (FamilyCon c)) (constant_head_fits from to along map_is c rest h))
  raise_head_translated k n context (FamilyApp p m) rest h =
      ap₂ head_takes (raise_head_translated k n context p (h.domain ∷ rest) h.head_has) (raise_translated k n m)
      ∙ raise_taken to (map (renamed along) context) (map (renamed along) rest) (renamed along h.domain) k n (translate_head along p) (translate_object along m) (head_fits from to along map_is context p (h.domain ∷ rest) h.head_has)

  pub raise_family_translated : (k n : ℕ) (context : SimpleContext) (a : Family) → IsKinded from context a → translate_family along (raise_family k n a) ≡ raise_family k n (translate_family along a)
  unfolding translate_family
  raise_family_translated k n context (Pi a b) h = ap₂ Pi (raise_family_translated k n context a h.0) (raise_family_translated k (suc n) (erase a ∷ context) b h.1)
  raise_family_translated k n context (AtFamily p) h =
      ap (λ z. family_of z (raise_atomic_family k n p)) (raise_head_translated k n context p [] h)
      ∙ family_of_map (raise k) to (map (renamed along) context) n (translate_head along p) p (raise_atomic_family k n p) (head_fits from to along map_is context p [] h)

  pub raise_kind_translated : (k n : ℕ) (context : SimpleContext) (l : Kind) → IsKindedKind from context l → translate_kind along (raise_kind k n l) ≡ raise_kind k n (translate_kind along l)
  unfolding translate_kind
  raise_kind_translated k n context Ty h = refl
  raise_kind_translated k n context (PiKind a l) h = ap₂ PiKind (raise_family_translated k n context a h.0) (raise_kind_translated k (suc n) (erase a ∷ context) l h.1)

  -- ---- substitution

  module _ (before : SimpleContext) (v : Object) (u : Simple) (value : HasSort (sorts_of from) before v u) where
    abbrev v' : Object
    v' = translate_object along v

    abbrev u' : Simple
    u' = renamed along u

    pub substitute_translated : (after : SimpleContext) (m : Object) (t : Simple) → HasSort (sorts_of from) (after ++ (u ∷ before)) m t → translate_object along (substitute v u (length after) m) ≡ substitute (translate_object along v) (renamed along u) (length after) (translate_object along m)
    unfolding translate_object
    substitute_translated after m t h = constants_commute (by_images along) (bases along) (sorts_of from) (sorts_of to) (sorted_map from to along map_is) after before v m u t value h

    mapped_append : (after : SimpleContext) → map (renamed along) (after ++ (u ∷ before)) ≡ map (renamed along) after ++ (u' ∷ map (renamed along) before)
    mapped_append [] = refl
    mapped_append (s ∷ after) = ap (λ z. renamed along s ∷ z) (mapped_append after)

    mapped_length : (after : SimpleContext) → length after ≡ length (map (renamed along) after)
    mapped_length [] = refl
    mapped_length (s ∷ after) = ap suc (mapped_length after)

    substitute_head_translated : (after : SimpleContext) (p : AtomicFamily) (rest : List Simple) → HasDomains from (after ++ (u ∷ before)) p rest
        → translate_head along (substitute_atomic_family v u (length after) p) ≡ map_head (substitute v' u') (length after) (translate_head along p)
    unfolding translate_head
    substitute_head_translated after (FamilyCon c) rest h = sym (substitute_closed_head to (map (renamed along) rest) v' u' (length after) (translate_head along (FamilyCon c)) (constant_head_fits from to along map_is c rest h))
    substitute_head_translated after (FamilyApp p m) rest h =
        ap₂ head_takes (substitute_head_translated after p (h.domain ∷ rest) h.head_has) (substitute_translated after m h.domain h.argument_has)
        ∙ substitute_taken to (map (renamed along) after) (map (renamed along) before) v' u' (object_sorted from to along map_is before v u value) (map (renamed along) rest) (renamed along h.domain) (length after) (translate_head along p) (translate_object along m) (mapped_length after)
        (subst (λ z. HeadFits to z (renamed along h.domain ∷ map (renamed along) rest) (translate_head along p)) (mapped_append after) (head_fits from to along map_is (after ++ (u ∷ before)) p (h.domain ∷ rest) h.head_has))
        (subst (λ z. HasSort (sorts_of to) z (translate_object along m) (renamed along h.domain)) (mapped_append after) (object_sorted from to along map_is (after ++ (u ∷ before)) m h.domain h.argument_has))

    pub substitute_family_translated : (after : SimpleContext) (a : Family) → IsKinded from (after ++ (u ∷ before)) a → translate_family along (substitute_family v u (length after) a) ≡ substitute_family (translate_object along v) (renamed along u) (length after) (translate_family along a)
    unfolding translate_family
    substitute_family_translated after (Pi a b) h = ap₂ Pi (substitute_family_translated after a h.0) (substitute_family_translated (erase a ∷ after) b h.1)
    substitute_family_translated after (AtFamily p) h =
        ap (λ z. family_of z (substitute_atomic_family v u (length after) p)) (substitute_head_translated after p [] h)
        ∙ family_of_map (substitute v' u') to (map (renamed along) (after ++ (u ∷ before))) (length after) (translate_head along p) p (substitute_atomic_family v u (length after) p) (head_fits from to along map_is (after ++ (u ∷ before)) p [] h)

    pub substitute_kind_translated : (after : SimpleContext) (k : Kind) → IsKindedKind from (after ++ (u ∷ before)) k → translate_kind along (substitute_kind v u (length after) k) ≡ substitute_kind (translate_object along v) (renamed along u) (length after) (translate_kind along k)
    unfolding translate_kind
    substitute_kind_translated after Ty h = refl
    substitute_kind_translated after (PiKind a k) h = ap₂ PiKind (substitute_family_translated after a h.0) (substitute_kind_translated (erase a ∷ after) k h.1)
