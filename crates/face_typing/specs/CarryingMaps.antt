-- Maps of faces that carry typing (Rabe and Kohlhase 2013, section 4: morphisms preserve judgements).
use Rattle.std.specs.Prelude.{◌≡◌, ℕ, slice_get, Some}
use Rattle.name_meaning.specs.Names.{Name}
use Rattle.lf_meaning.specs.Terms.{Object, Family, Context}
use Rattle.lf_meaning.specs.Signatures.{Signature}
use Rattle.lf_meaning.specs.Judgements.{IsTyping, IsSignature}
use Rattle.lf_meaning.specs.HeadMaps.{HeadMap}
use Rattle.translation_meaning.specs.Translation.{translate_object, translate_family}
use Rattle.translation_meaning.specs.TypedMaps.{IsTypedMap}
use Rattle.translation_typing.specs.TypedTranslation.{translate_context}
use Rattle.library_meaning.specs.Faces.{StructureFace, TheoryFace, ViewFace, Environment, flat_signature, flat_of}
use Rattle.library_meaning.specs.Coherence.{IsCoherentTheory, IsCoherentView}
use Rattle.face_typing.specs.Below.TypedFaces.{IsTypedTheory, IsTypedView, IsTypedEnvironment}

-- The map is typed, and carries each typing judgement over the first signature to one over the second.
pub record CarriesTyping (from to : Signature) (along : HeadMap) : Type 0 where
  pub typed : IsTypedMap from to along
  pub carries : (context : Context) (object : Object) (family : Family) → IsTyping from context object family
      → IsTyping to (translate_context along context) (translate_object along object) (translate_family along family)

-- The theory flattens to a well-typed signature, and the map of each of its structures carries typing from the structure's domain
-- to it.
pub record FlattensTyped (environment : Environment) (face : TheoryFace) : Type 0 where
  pub signature : IsSignature (flat_signature environment face)
  pub structures : (place : ℕ) (structure : StructureFace) → slice_get face.structures place ≡ Some structure
      → CarriesTyping (flat_of environment structure.domain) (flat_signature environment face) structure.map

-- The map of the view carries typing from its domain to its codomain.
abbrev pub ViewCarriesTyping : Environment → ViewFace → Type 0
ViewCarriesTyping environment face = CarriesTyping (flat_of environment face.domain) (flat_of environment face.codomain) face.map

-- Where all that is known is well typed, so it is with each theory that is coherent and well typed over it, whether it is known
-- itself or not.
abbrev pub TypedTheoriesFlatten : Type 0
TypedTheoriesFlatten =
    (environment : Environment) (name : Name) (face : TheoryFace) → IsTypedEnvironment environment → IsCoherentTheory environment name face
    → IsTypedTheory environment face → FlattensTyped environment face

-- So it is with each view.
abbrev pub TypedViewsCarry : Type 0
TypedViewsCarry =
    (environment : Environment) (name : Name) (face : ViewFace) → IsTypedEnvironment environment → IsCoherentView environment name face
    → IsTypedView environment face → ViewCarriesTyping environment face
