-- Links that are well typed (this profile).
use Rattle.std.specs.Prelude.{◌≡◌, ℕ, List, slice_get, Option, Some}
use Rattle.name_meaning.specs.Names.{Path}
use Rattle.lf_meaning.specs.Signatures.{Signature}
use Rattle.lf_meaning.specs.Judgements.{IsSignature}
use Rattle.lf_meaning.specs.HeadMaps.{HeadMap}
use Rattle.translation_meaning.specs.ProperValues.{ValuesAreProper}
use Rattle.translation_meaning.specs.TypedMaps.{IsTypedMap}
use Rattle.translation_typing.specs.AtomicBodies.{BodiesAreAtomic}
use Rattle.library_meaning.specs.Faces.{StructureFace, TheoryFace, Environment, flat_signature, flat_of}
use Rattle.library_meaning.specs.Coherence.{IsCoherentMap, IsCoherent}
use Rattle.library_meaning.specs.Words.{Link, RowMeans, row_meaning}
use Rattle.link_laws.specs.LinkTargets.{target_of, HereHolds}
use Rattle.morphism_words_typing.specs.TypedFaces.{IsTypedEnvironment}

-- The values of a coherent map are proper, and its families atomic.
abbrev pub CoherentMapsAreProper : Type 0
CoherentMapsAreProper = (from to : Signature) (along : HeadMap) → IsCoherentMap from to along → ValuesAreProper along × BodiesAreAtomic along

-- The theory that is being built is well typed so far, and so are the maps of its structures.
pub record HereTyped (environment : Environment) (here : Option TheoryFace) : Type 0 where
  pub signature : (face : TheoryFace) → here ≡ Some face → IsSignature (flat_signature environment face)
  pub structures : (face : TheoryFace) → here ≡ Some face → (i : ℕ) (structure : StructureFace) → slice_get face.structures i ≡ Some structure
      → IsTypedMap (flat_of environment structure.domain) (flat_signature environment face) structure.map

-- A row of words means a link with a typed map, where all that is known is coherent and well typed, and so is the theory
-- that is being built.
abbrev pub RowsAreTyped : Type 0
RowsAreTyped =
    (environment : Environment) (here : Option TheoryFace) (words : List Path) (link : Link) → IsCoherent environment → IsTypedEnvironment environment
    → HereHolds environment here → HereTyped environment here
    → row_meaning environment here words ≡ RowMeans link → IsTypedMap (flat_of environment link.domain) (target_of environment here link.codomain) link.map
