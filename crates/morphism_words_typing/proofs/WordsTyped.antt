-- Words of morphisms, and rows of them, have typed maps.
use Rattle.std.proofs.Common.{◌≡◌, List, ◌++◌, Option, Some, None, refl}
use Rattle.name_meaning.specs.Names.{Name, Path}
use Rattle.lf_meaning.specs.Signatures.{Signature}
use Rattle.lf_meaning.specs.Judgements.{IsSignature}
use Rattle.lf_typing.proofs.Growing.{empty_signature}
use Rattle.lf_meaning.specs.HeadMaps.{HeadMap}
use Rattle.translation_meaning.specs.ProperValues.{ValuesAreProper}
use Rattle.translation_meaning.specs.TypedMaps.{IsTypedMap}
use Rattle.translation_typing.specs.Composition.{AreComposable}
use Rattle.translation_typing.specs.TypedTranslation.{IsTypedTranslation}
use Rattle.translation_typing.proofs.Composed.{composition_is_typed, composition_is_proper}
use Rattle.library_meaning.specs.Faces.{TheoryFace, ViewFace, IsView, Environment, theory_of, includes_of, own_of, own_parts, flat_signature, flat_of}
use Rattle.library_meaning.specs.Coherence.{IsCoherentMap, IsCoherent}
use Rattle.library_meaning.specs.Words.{Link, RowMeans, row_meaning, structures_of, structures_link}
use Rattle.link_laws.proofs.Linked.{known_theory}
use Rattle.link_laws.specs.LinkTargets.{target_of, HereHolds}
use Rattle.link_laws.proofs.WordsHold.{Composes, AreStructures, theory_at, structures_link_is, row_is}
use Rattle.morphism_words_typing.specs.TypedFaces.{IsTypedEnvironment}
use Rattle.morphism_words_typing.specs.TypedLinks.{HereTyped, RowsAreTyped}
use Rattle.morphism_words_typing.proofs.ProperImages.{images_proper}
use Rattle.morphism_words_typing.proofs.Grown.{typed_map_more}
use Rattle.translation_typing.proofs.Proper.{proper_atomic_over}

-- ---- typed maps of proper values

pub record IsProperTranslation (from to : Signature) (along : HeadMap) : Type 0 where
  pub translates : IsTypedTranslation from to along
  pub proper : ValuesAreProper along

pub proper_translation : (from to : Signature) (along : HeadMap) → IsSignature from → IsSignature to → IsTypedMap from to along → IsCoherentMap from to along → IsProperTranslation from to along
proper_translation from to along source target typed k =
    let proper : ValuesAreProper along = images_proper from to along k in
    record { translates = record { source = source; target = target; typed = typed; atomic = proper_atomic_over from along proper }; proper = proper }

proper_composes : Composes IsProperTranslation
proper_composes from middle more to first second g k l =
    let f = k.translates in
    let s = l.translates in
    let is : AreComposable from more to first second = record {
      first_is = record { source = f.source; target = s.source; typed = typed_map_more from middle more first g f.typed; atomic = f.atomic };
      second_is = s;
      first_proper = k.proper;
      second_proper = l.proper;
    } in
    record { translates = composition_is_typed from more to first second is; proper = composition_is_proper from more to first second is }

-- ---- an environment that is coherent and typed

module _ (environment : Environment) (coherent : IsCoherent environment) (typed : IsTypedEnvironment environment) where
  -- accepted theories flatten to well-typed signatures, and another name to the empty one
  pub flat_typed : (theory : Name) → IsSignature (flat_of environment theory)
  flat_typed theory = by (theory_of environment theory) refl
    where
      by : (o : Option TheoryFace) → theory_of environment theory ≡ o → IsSignature (own_parts environment (includes_of o) ++ own_of o)
      by None e = empty_signature
      by (Some face) e = (typed.theories theory face (known_theory (environment theory) face e)).signature

  declared : (theory : Name) → AreStructures environment coherent IsProperTranslation (structures_of (theory_of environment theory)) (flat_of environment theory)
  declared theory = by (theory_of environment theory) refl
    where
      by : (o : Option TheoryFace) → theory_of environment theory ≡ o → AreStructures environment coherent IsProperTranslation (structures_of o) (own_parts environment (includes_of o) ++ own_of o)
      by None e = λ i s h. absurd (cc)
      by (Some face) e = λ i s h.
          let c = theory_at environment coherent theory face e in
          let t = typed.theories theory face (known_theory (environment theory) face e) in
          (c.domains i s h, proper_translation (flat_of environment s.domain) (flat_signature environment face) s.map (flat_typed s.domain) t.signature (t.maps i s h) (c.maps i s h))

  -- a structure of an accepted theory, or of the domain of such a one
  pub structure_translates : (theory : Name) (path : Path) (link : Link) → structures_link environment theory (structures_of (theory_of environment theory)) path ≡ Some link
      → IsProperTranslation (flat_of environment link.domain) (flat_of environment theory) link.map
  structure_translates theory path link h =
      (structures_link_is environment coherent IsProperTranslation proper_composes declared path theory (structures_of (theory_of environment theory)) (flat_of environment theory) link (declared theory) h).map_is

  pub structure_typed : (theory : Name) (path : Path) (link : Link) → structures_link environment theory (structures_of (theory_of environment theory)) path ≡ Some link
      → IsTypedMap (flat_of environment link.domain) (flat_of environment theory) link.map
  structure_typed theory path link h = let s = structure_translates theory path link h in let t = s.translates in t.typed

  pub view_translates : (name : Name) (view : ViewFace) → environment name ≡ IsView view → IsProperTranslation (flat_of environment view.domain) (flat_of environment view.codomain) view.map
  view_translates name view e =
      let c = coherent.views name view e in
      proper_translation (flat_of environment view.domain) (flat_of environment view.codomain) view.map (flat_typed view.domain) (flat_typed view.codomain) (typed.views name view e) c.map_is

  module _ (here : Option TheoryFace) (holds : HereHolds environment here) (here_typed : HereTyped environment here) where
    own : (face : TheoryFace) → here ≡ Some face → AreStructures environment coherent IsProperTranslation face.structures (flat_signature environment face)
    own face e i s h =
        let c = holds.structures face e i s h in
        (c.0, proper_translation (flat_of environment s.domain) (flat_signature environment face) s.map (flat_typed s.domain) (here_typed.signature face e) (here_typed.structures face e i s h) c.1)

    pub row_translates : (words : List Path) (link : Link) → row_meaning environment here words ≡ RowMeans link
        → IsProperTranslation (flat_of environment link.domain) (target_of environment here link.codomain) link.map
    row_translates words link h = (row_is environment coherent IsProperTranslation proper_composes declared here holds own view_translates words link h).map_is

pub rows_are_typed : RowsAreTyped
rows_are_typed environment here words link coherent typed holds here_typed h =
    let r = row_translates environment coherent typed here holds here_typed words link h in
    let t = r.translates in
    t.typed
