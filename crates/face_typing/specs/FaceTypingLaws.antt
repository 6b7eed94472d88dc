-- Accepted theories flatten to well-typed signatures; accepted views and structures carry typing (this profile).
use Rattle.std.specs.Prelude.{◌≡◌, ℕ, true, List, slice_get, Some}
use Rattle.name_meaning.specs.Names.{Name}
use Rattle.edit_log_meaning.specs.Log.{Library}
use Rattle.lf_meaning.specs.Terms.{Object, Family, Context}
use Rattle.lf_meaning.specs.Judgements.{IsTyping, IsSignature}
use Rattle.translation_meaning.specs.Translation.{translate_object, translate_family}
use Rattle.translation_meaning.specs.ProperValues.{ValuesAreProper}
use Rattle.translation_typing.specs.TypedTranslation.{translate_context, IsTypedTranslation}
use Rattle.library_meaning.specs.Faces.{StructureFace, TheoryFace, ViewFace, IsTheory, IsView, Environment, flat_signature, flat_of}
use Rattle.library_meaning.specs.Coherence.{IsCoherent}
use Rattle.module_graph_meaning.specs.Walks.{is_grounded}
use Rattle.text_meaning.specs.Dependencies.{dependencies}
use Rattle.verdict_meaning.specs.Rounds.{known_of, verdicts, told_by, known_to}
use Rattle.coherence_laws.specs.CoherenceLaws.{AreClosed}
use Rattle.face_typing.specs.Below.TypedFaces.{IsTypedEnvironment}

-- The faces of all accepted modules of a library are well typed.
abbrev pub FacesAreTyped : Type 0
FacesAreTyped = (library : Library) → IsTypedEnvironment (told_by library)

-- So is all that a grounded module knows of others.
abbrev pub GroundedKnowTyped : Type 0
GroundedKnowTyped = (library : Library) (name : Name) → is_grounded dependencies library name ≡ true → IsTypedEnvironment (known_to library name)

-- So is what the verdicts of a library tell of names that are closed under their reach.
abbrev pub ClosedAreTyped : Type 0
ClosedAreTyped = (library : Library) (names : List Name) → AreClosed library names → IsTypedEnvironment (known_of names (verdicts library))

-- Where all that is known is coherent and well typed, the map of a view is a typed one between well-typed signatures, of
-- atomic families, and its values are proper. So it commutes with raising and substitution, keeps typing, and composes.
abbrev pub KnownViewsTranslate : Type 0
KnownViewsTranslate =
    (environment : Environment) (name : Name) (face : ViewFace) → IsCoherent environment → IsTypedEnvironment environment → environment name ≡ IsView face
    → IsTypedTranslation (flat_of environment face.domain) (flat_of environment face.codomain) face.map × ValuesAreProper face.map

-- So is that of a structure of a theory.
abbrev pub KnownStructuresTranslate : Type 0
KnownStructuresTranslate =
    (environment : Environment) (name : Name) (face : TheoryFace) (i : ℕ) (structure : StructureFace)
    → IsCoherent environment → IsTypedEnvironment environment → environment name ≡ IsTheory face → slice_get face.structures i ≡ Some structure
    → IsTypedTranslation (flat_of environment structure.domain) (flat_signature environment face) structure.map × ValuesAreProper structure.map

-- Where all that is known is coherent and well typed, a view carries each typing judgement of its domain to one of its
-- codomain.
abbrev pub KnownViewsCarryTyping : Type 0
KnownViewsCarryTyping =
    (environment : Environment) (name : Name) (face : ViewFace) (context : Context) (object : Object) (family : Family)
    → IsCoherent environment → IsTypedEnvironment environment → environment name ≡ IsView face
    → IsTyping (flat_of environment face.domain) context object family
    → IsTyping (flat_of environment face.codomain) (translate_context face.map context) (translate_object face.map object) (translate_family face.map family)

-- So does each structure of a theory, to the theory.
abbrev pub KnownStructuresCarryTyping : Type 0
KnownStructuresCarryTyping =
    (environment : Environment) (name : Name) (face : TheoryFace) (i : ℕ) (structure : StructureFace) (context : Context) (object : Object) (family : Family)
    → IsCoherent environment → IsTypedEnvironment environment → environment name ≡ IsTheory face → slice_get face.structures i ≡ Some structure
    → IsTyping (flat_of environment structure.domain) context object family
    → IsTyping (flat_signature environment face) (translate_context structure.map context) (translate_object structure.map object) (translate_family structure.map family)

-- An accepted theory flattens to a well-typed signature.
abbrev pub TheoriesFlatten : Type 0
TheoriesFlatten =
    (library : Library) (name : Name) (face : TheoryFace) → told_by library name ≡ IsTheory face → IsSignature (flat_signature (told_by library) face)

-- An accepted view carries each typing judgement of its domain to one of its codomain.
abbrev pub ViewsCarryTyping : Type 0
ViewsCarryTyping =
    (library : Library) (name : Name) (face : ViewFace) (context : Context) (object : Object) (family : Family) → told_by library name ≡ IsView face
    → IsTyping (flat_of (told_by library) face.domain) context object family
    → IsTyping (flat_of (told_by library) face.codomain) (translate_context face.map context) (translate_object face.map object) (translate_family face.map family)

-- So does each structure of an accepted theory, to the theory.
abbrev pub StructuresCarryTyping : Type 0
StructuresCarryTyping =
    (library : Library) (name : Name) (face : TheoryFace) (i : ℕ) (structure : StructureFace) (context : Context) (object : Object) (family : Family)
    → told_by library name ≡ IsTheory face → slice_get face.structures i ≡ Some structure
    → IsTyping (flat_of (told_by library) structure.domain) context object family
    → IsTyping (flat_signature (told_by library) face) (translate_context structure.map context) (translate_object structure.map object) (translate_family structure.map family)
