-- Maps of typed faces carry typing.
use Rattle.lf_meaning.specs.Signatures.{Signature}
use Rattle.lf_meaning.specs.HeadMaps.{HeadMap}
use Rattle.library_meaning.specs.Coherence.{IsCoherentMap}
use Rattle.library_meaning.specs.Faces.{flat_signature, flat_of}
use Rattle.lf_meaning.specs.Judgements.{IsSignature}
use Rattle.translation_meaning.specs.TypedMaps.{IsTypedMap}
use Rattle.translation_typing.specs.TypedTranslation.{IsTypedTranslation}
use Rattle.translation_typing.proofs.Laws.{typing_is_carried}
use Rattle.translation_typing.proofs.Proper.{proper_atomic_over}
use Rattle.face_typing.proofs.Below.ProperImages.{images_proper}
use Rattle.face_typing.specs.CarryingMaps.{CarriesTyping, TypedTheoriesFlatten, TypedViewsCarry}
use Rattle.face_typing.proofs.LibrariesTyped.{flat_typed}

map_carries : (from to : Signature) (along : HeadMap) → IsSignature from → IsSignature to → IsTypedMap from to along → IsCoherentMap from to along → CarriesTyping from to along
map_carries from to along s t m k =
    let is : IsTypedTranslation from to along = record { source = s; target = t; typed = m; atomic = proper_atomic_over from along (images_proper from to along k) } in
    record { typed = m; carries = λ context object family h. typing_is_carried from to along context object family is h }

pub typed_theories_flatten : TypedTheoriesFlatten
typed_theories_flatten environment name face known coherent typed =
    record {
      signature = typed.signature;
      structures = λ place structure at. map_carries (flat_of environment structure.domain) (flat_signature environment face) structure.map (flat_typed environment known structure.domain) typed.signature (typed.maps place structure at) (coherent.maps place structure at);
    }

pub typed_views_carry : TypedViewsCarry
typed_views_carry environment name face known coherent typed =
    map_carries (flat_of environment face.domain) (flat_of environment face.codomain) face.map (flat_typed environment known face.domain) (flat_typed environment known face.codomain) typed coherent.map_is
