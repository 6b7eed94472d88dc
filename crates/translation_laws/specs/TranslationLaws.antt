-- Laws of translation (Rabe and Kohlhase 2013, section 4).
use Rattle.std.specs.Prelude.{◌≡◌, ℕ, ◌<◌, true, false, List, map, slice_get, Option, Some, None, option_map, Decides}
use Rattle.lf_meaning.specs.Signatures.{Class, Value, Declaration, Signature}
use Rattle.lf_meaning.specs.Terms.{Constant, Object, Family, Kind, AtomicFamily, apply_all, family_apply_all, At, Con}
use Rattle.lf_meaning.specs.Replacement.{takes_all, object_of}
use Rattle.translation_meaning.specs.Heads.{head_takes_all}
use Rattle.lf_meaning.specs.HeadMaps.{Image, HeadMap, image_of}
use Rattle.lf_meaning.specs.Judgements.{Fits}
use Rattle.translation_meaning.specs.TypedMaps.{IsTypedMap}
use Rattle.translation_meaning.specs.Differ.{value_in, agree_on, differ}
use Rattle.translation_meaning.specs.Translation.{headed_image, translate_object, translate_head, translate_image, compose, translate_class, translate_value}
use Rattle.translation_meaning.specs.FirstUnmapped.{constants_of_object, constants_of_family, constants_of_kind, constants_of_class, constants_of_value, constants_of_map, IsUnmapped}
use Rattle.translation_meaning.specs.Unmapped.{unmapped_object, unmapped_family, unmapped_kind, unmapped_class, unmapped_value, unmapped_map}

-- A constant with its arguments is translated by its image taking the translated arguments, from left to right.
abbrev pub SpineIsTaken : Type 0
SpineIsTaken =
    (along : HeadMap) (constant : Constant) (arguments : List Object)
    → translate_object along (At (apply_all (Con constant) arguments))
    ≡ object_of (takes_all (headed_image constant (image_of along constant)) (map (translate_object along) arguments))

-- So is an atomic family with further arguments.
abbrev pub FamilySpineIsTaken : Type 0
FamilySpineIsTaken =
    (along : HeadMap) (p : AtomicFamily) (arguments : List Object)
    → translate_head along (family_apply_all p arguments) ≡ head_takes_all (translate_head along p) (map (translate_object along) arguments)

-- A composition has the images of the first map, translated along the second, and no others.
abbrev pub CompositionTranslatesImages : Type 0
CompositionTranslatesImages =
    (first second : HeadMap) (constant : Constant)
    → image_of (compose first second) constant ≡ option_map (translate_image second) (image_of first constant)

-- The place where two maps differ is the first declaration on which they do not agree; there is none where they agree on
-- all.
pub record IsFirstDifference (first second : HeadMap) (names : Signature) (place : ℕ) : Type 0 where
  pub declaration : Declaration
  pub found : slice_get names place ≡ Some declaration
  pub differs : agree_on first second declaration ≡ false
  pub before : (i : ℕ) (earlier : Declaration) → i < place → slice_get names i ≡ Some earlier → agree_on first second earlier ≡ true

-- The maps agree on all declarations.
abbrev pub AgreeOnAll : HeadMap → HeadMap → Signature → Type 0
AgreeOnAll first second names = (i : ℕ) (declaration : Declaration) → slice_get names i ≡ Some declaration → agree_on first second declaration ≡ true

-- A place is that of the first difference; none is that there is no difference.
abbrev pub IsDifference : HeadMap → HeadMap → Signature → Option ℕ → Type 0
IsDifference first second names None = AgreeOnAll first second names
IsDifference first second names (Some place) = IsFirstDifference first second names place

-- What the function answers is so.
abbrev pub DifferenceIsFirst : Type 0
DifferenceIsFirst = (first second : HeadMap) (names : Signature) → IsDifference first second names (differ first second names)

-- Two maps agree on a constant where both give it an image, with one value.
abbrev pub AgreeIsOneValue : Type 0
AgreeIsOneValue =
    (first second : HeadMap) (declaration : Declaration)
    → Decides (agree_on first second declaration) ((value : Value) × (value_in first declaration.name ≡ Some value) × (value_in second declaration.name ≡ Some value))

-- A typed map gives a defined constant its translated value.
abbrev pub DefinedConstantsKeepValues : Type 0
DefinedConstantsKeepValues =
    (from to : Signature) (along : HeadMap) (place : ℕ) (declaration : Declaration) (value : Value) (image : Image) → IsTypedMap from to along
    → slice_get from place ≡ Some declaration → declaration.value ≡ Some value → image_of along declaration.name ≡ Some image
    → image.value ≡ translate_value along value

-- And it gives each constant an image of the translated class, whose value fits it.
abbrev pub ConstantsHaveImages : Type 0
ConstantsHaveImages =
    (from to : Signature) (along : HeadMap) (place : ℕ) (declaration : Declaration) → IsTypedMap from to along
    → slice_get from place ≡ Some declaration
    → (image : Image) × (image_of along declaration.name ≡ Some image) × (image.class ≡ translate_class along declaration.class) × Fits to image.value image.class

-- The functions find the first constant without an image: of all sorts of terms, of values, and of the images of a map.
pub record FirstIsFound : Type 0 where
  pub object : (along : HeadMap) (object : Object) → IsUnmapped along (constants_of_object object) (unmapped_object along object)
  pub family : (along : HeadMap) (family : Family) → IsUnmapped along (constants_of_family family) (unmapped_family along family)
  pub kind : (along : HeadMap) (kind : Kind) → IsUnmapped along (constants_of_kind kind) (unmapped_kind along kind)
  pub class : (along : HeadMap) (class : Class) → IsUnmapped along (constants_of_class class) (unmapped_class along class)
  pub value : (along : HeadMap) (value : Value) → IsUnmapped along (constants_of_value value) (unmapped_value along value)
  pub map : (along mappings : HeadMap) → IsUnmapped along (constants_of_map mappings) (unmapped_map along mappings)
