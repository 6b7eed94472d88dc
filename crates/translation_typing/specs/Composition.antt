-- Composition of typed maps: translation along it is translation along one and then the other (Rabe and Kohlhase 2013, section
-- 4: morphisms compose).
use Rattle.std.specs.Prelude.{◌≡◌}
use Rattle.lf_meaning.specs.Terms.{Object, Family, Kind, Context}
use Rattle.lf_meaning.specs.Signatures.{Class, Value, Signature}
use Rattle.lf_meaning.specs.Judgements.{Checks, IsFamily, IsKind, IsContext, IsClass, Fits}
use Rattle.lf_meaning.specs.HeadMaps.{HeadMap}
use Rattle.translation_meaning.specs.Translation.{translate_object, translate_family, translate_kind, translate_class, translate_value, compose}
use Rattle.translation_meaning.specs.ProperValues.{ValuesAreProper}
use Rattle.translation_typing.specs.TypedTranslation.{IsTypedTranslation}

-- One map into a signature, and one out of it, of proper values.
pub record AreComposable (from middle to : Signature) (first second : HeadMap) : Type 0 where
  pub first_is : IsTypedTranslation from middle first
  pub second_is : IsTypedTranslation middle to second
  pub first_proper : ValuesAreProper first
  pub second_proper : ValuesAreProper second

abbrev pub ObjectsAreComposed : Type 0
ObjectsAreComposed =
    (from middle to : Signature) (first second : HeadMap) (context : Context) (object : Object) (family : Family) → AreComposable from middle to first second
    → IsContext from context → IsFamily from context family → Checks from context object family
    → translate_object (compose first second) object ≡ translate_object second (translate_object first object)

abbrev pub FamiliesAreComposed : Type 0
FamiliesAreComposed =
    (from middle to : Signature) (first second : HeadMap) (context : Context) (family : Family) → AreComposable from middle to first second
    → IsContext from context → IsFamily from context family
    → translate_family (compose first second) family ≡ translate_family second (translate_family first family)

abbrev pub KindsAreComposed : Type 0
KindsAreComposed =
    (from middle to : Signature) (first second : HeadMap) (context : Context) (kind : Kind) → AreComposable from middle to first second
    → IsContext from context → IsKind from context kind
    → translate_kind (compose first second) kind ≡ translate_kind second (translate_kind first kind)

abbrev pub ClassesAreComposed : Type 0
ClassesAreComposed =
    (from middle to : Signature) (first second : HeadMap) (class : Class) → AreComposable from middle to first second
    → IsClass from class
    → translate_class (compose first second) class ≡ translate_class second (translate_class first class)

abbrev pub ValuesAreComposed : Type 0
ValuesAreComposed =
    (from middle to : Signature) (first second : HeadMap) (class : Class) (value : Value) → AreComposable from middle to first second
    → IsClass from class → Fits from value class
    → translate_value (compose first second) value ≡ translate_value second (translate_value first value)

-- The composition is typed, and its values are proper.
abbrev pub CompositionIsTyped : Type 0
CompositionIsTyped =
    (from middle to : Signature) (first second : HeadMap) → AreComposable from middle to first second
    → IsTypedTranslation from to (compose first second)

abbrev pub CompositionIsProper : Type 0
CompositionIsProper =
    (from middle to : Signature) (first second : HeadMap) → AreComposable from middle to first second → ValuesAreProper (compose first second)
