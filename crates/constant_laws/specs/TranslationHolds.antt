-- Translation brings only constants of the target (this profile).
use Rattle.std.specs.Prelude.{◌≡◌, ℕ, Some}
use Rattle.lf_meaning.specs.Terms.{Constant, Object, Family, Kind}
use Rattle.lf_meaning.specs.Signatures.{Class, Value, Signature, class_of}
use Rattle.lf_meaning.specs.HeadMaps.{Image, HeadMap, image_of}
use Rattle.translation_meaning.specs.Translation.{translate_object, translate_family, translate_kind, translate_class, translate_value, compose}
use Rattle.library_meaning.specs.Holding.{ObjectHolds, FamilyHolds, KindHolds, ClassHolds, ValueHolds, AlikeClasses}
use Rattle.library_meaning.specs.Coherence.{IsCoherentMap}

-- Each constant of the source has an image that holds only constants of the target, of a class alike to its own.
pub record HasImage (to : Signature) (along : HeadMap) (c : Constant) (class : Class) : Type 0 where
  pub image : Image
  pub is : image_of along c ≡ Some image
  pub class_holds : ClassHolds to image.class
  pub value_holds : ValueHolds to image.class image.value
  pub alike : AlikeClasses image.class class

-- Each constant of the source has such an image.
abbrev pub MapsInto : Signature → Signature → HeadMap → Type 0
MapsInto from to along = (c : Constant) (class : Class) → class_of from c ≡ Some class → HasImage to along c class

-- A coherent map is one.
abbrev pub CoherentMapsInto : Type 0
CoherentMapsInto = (from to : Signature) (along : HeadMap) → IsCoherentMap from to along → MapsInto from to along

-- A translated object holds only constants of the target.
abbrev pub TranslatedObjectHolds : Type 0
TranslatedObjectHolds = (from to : Signature) (along : HeadMap) (variables : ℕ) (object : Object) → MapsInto from to along → ObjectHolds from variables object → ObjectHolds to variables (translate_object along object)

-- So does a translated family.
abbrev pub TranslatedFamilyHolds : Type 0
TranslatedFamilyHolds = (from to : Signature) (along : HeadMap) (variables : ℕ) (family : Family) → MapsInto from to along → FamilyHolds from variables family → FamilyHolds to variables (translate_family along family)

-- So does a translated kind.
abbrev pub TranslatedKindHolds : Type 0
TranslatedKindHolds = (from to : Signature) (along : HeadMap) (variables : ℕ) (kind : Kind) → MapsInto from to along → KindHolds from variables kind → KindHolds to variables (translate_kind along kind)

-- So does a translated class.
abbrev pub TranslatedClassHolds : Type 0
TranslatedClassHolds = (from to : Signature) (along : HeadMap) (class : Class) → MapsInto from to along → ClassHolds from class → ClassHolds to (translate_class along class)

-- So does a translated value, at the translated class.
abbrev pub TranslatedValueHolds : Type 0
TranslatedValueHolds =
    (from to : Signature) (along : HeadMap) (class : Class) (value : Value) → MapsInto from to along → ValueHolds from class value
    → ValueHolds to (translate_class along class) (translate_value along value)

-- A translated class is alike to the class.
abbrev pub TranslatedClassIsAlike : Type 0
TranslatedClassIsAlike = (along : HeadMap) (class : Class) → AlikeClasses (translate_class along class) class

-- The composition of coherent maps is coherent.
abbrev pub CompositionIsCoherent : Type 0
CompositionIsCoherent =
    (from middle to : Signature) (first second : HeadMap) → IsCoherentMap from middle first → IsCoherentMap middle to second
    → IsCoherentMap from to (compose first second)
