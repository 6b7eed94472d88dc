-- Along a typed map each of whose families is atomic below its binders, this translation and that of `Translation` are the same: no
-- base goes to an arrow there.
use Rattle.std.specs.Prelude.{◌≡◌, map}
use Rattle.lf_meaning.specs.Terms.{Object, Family, Kind, Simple, SimpleContext}
use Rattle.lf_meaning.specs.Signatures.{Class, Value, Signature}
use Rattle.lf_meaning.specs.Sorts.{HasSort, sorts_of}
use Rattle.lf_meaning.specs.Judgements.{IsClass, Fits}
use Rattle.lf_meaning.specs.HeadMaps.{HeadMap}
use Rattle.translation_meaning.specs.Translation as Atomic
use Rattle.translation_meaning.specs.FunctionFamilies.{translate_simple, translate_object, translate_family, translate_kind, translate_class, translate_value}
use Rattle.translation_typing.specs.AtomicBodies.{BodiesAreAtomic}
use Rattle.translation_typing.specs.KindedFamilies.{IsKinded, IsKindedKind}
use Rattle.function_family_laws.specs.TypedFunctionMaps.{IsTypedFunctionTranslation}

-- A well-sorted object is translated to the same at the translated simple type.
abbrev pub ObjectsAreTheSame : Type 0
ObjectsAreTheSame =
    (from to : Signature) (along : HeadMap) (context : SimpleContext) (object : Object) (t : Simple) → IsTypedFunctionTranslation from to along → BodiesAreAtomic along
    → HasSort (sorts_of from) context object t
    → translate_object along (map (translate_simple along) context) object (translate_simple along t) ≡ Atomic.translate_object along object

-- So are well-sorted families and kinds, and well-formed classes and the values that fit them.
abbrev pub FamiliesAreTheSame : Type 0
FamiliesAreTheSame =
    (from to : Signature) (along : HeadMap) (context : SimpleContext) (family : Family) → IsTypedFunctionTranslation from to along → BodiesAreAtomic along
    → IsKinded from context family
    → translate_family along (map (translate_simple along) context) family ≡ Atomic.translate_family along family

abbrev pub KindsAreTheSame : Type 0
KindsAreTheSame =
    (from to : Signature) (along : HeadMap) (context : SimpleContext) (kind : Kind) → IsTypedFunctionTranslation from to along → BodiesAreAtomic along
    → IsKindedKind from context kind
    → translate_kind along (map (translate_simple along) context) kind ≡ Atomic.translate_kind along kind

abbrev pub ClassesAreTheSame : Type 0
ClassesAreTheSame =
    (from to : Signature) (along : HeadMap) (class : Class) → IsTypedFunctionTranslation from to along → BodiesAreAtomic along
    → IsClass from class
    → translate_class along class ≡ Atomic.translate_class along class

abbrev pub ValuesAreTheSame : Type 0
ValuesAreTheSame =
    (from to : Signature) (along : HeadMap) (class : Class) (value : Value) → IsTypedFunctionTranslation from to along → BodiesAreAtomic along
    → IsClass from class → Fits from value class
    → translate_value along (translate_class along class) value ≡ Atomic.translate_value along value
