-- What holds only constants of a signature has an image for each of them along a map that has the signature's names (this profile).
use Rattle.std.specs.Prelude.{◌≡◌, ℕ, None, Some, IsSome, slice_get}
use Rattle.lf_meaning.specs.Terms.{Constant, Object, Family}
use Rattle.lf_meaning.specs.Signatures.{Class, Value, Signature, class_of}
use Rattle.lf_meaning.specs.HeadMaps.{Mapping, HeadMap, image_of}
use Rattle.translation_meaning.specs.Unmapped.{unmapped_object, unmapped_family, unmapped_class, unmapped_value, unmapped_map}
use Rattle.library_meaning.specs.Coherence.{declared_names, mapped_names}
use Rattle.library_meaning.specs.Holding.{ObjectHolds, FamilyHolds, ClassHolds, ValueHolds}

-- Each constant of the signature has an image.
abbrev pub HasImages : Signature → HeadMap → Type 0
HasImages from along = (c : Constant) (class : Class) → class_of from c ≡ Some class → IsSome (image_of along c)

-- A map that has the signature's names is such.
abbrev pub NamesHaveImages : Type 0
NamesHaveImages = (from : Signature) (along : HeadMap) → mapped_names along ≡ declared_names from → HasImages from along

abbrev pub ObjectsAreMapped : Type 0
ObjectsAreMapped = (from : Signature) (along : HeadMap) (variables : ℕ) (object : Object) → HasImages from along → ObjectHolds from variables object → unmapped_object along object ≡ None

abbrev pub FamiliesAreMapped : Type 0
FamiliesAreMapped = (from : Signature) (along : HeadMap) (variables : ℕ) (family : Family) → HasImages from along → FamilyHolds from variables family → unmapped_family along family ≡ None

abbrev pub ClassesAreMapped : Type 0
ClassesAreMapped = (from : Signature) (along : HeadMap) (class : Class) → HasImages from along → ClassHolds from class → unmapped_class along class ≡ None

abbrev pub ValuesAreMapped : Type 0
ValuesAreMapped = (from : Signature) (along : HeadMap) (class : Class) (value : Value) → HasImages from along → ValueHolds from class value → unmapped_value along value ≡ None

-- The images of a map hold only constants of the signature.
abbrev pub ImagesHold : Signature → HeadMap → Type 0
ImagesHold from first = (i : ℕ) (mapping : Mapping) → slice_get first i ≡ Some mapping → ClassHolds from mapping.image.class × ValueHolds from mapping.image.class mapping.image.value

-- So they are all translated.
abbrev pub MapsAreMapped : Type 0
MapsAreMapped = (from : Signature) (first along : HeadMap) → HasImages from along → ImagesHold from first → unmapped_map along first ≡ None
