-- Translation along a typed map whose families may be functions keeps typing (Rabe and Kohlhase 2013, section 4: morphisms preserve
-- judgements).
use Rattle.lf_meaning.specs.Terms.{Object, Family, Kind, Context, SimpleContext}
use Rattle.lf_meaning.specs.Erasure.{erase, erase_context}
use Rattle.lf_meaning.specs.Signatures.{Class, Value, Signature}
use Rattle.lf_meaning.specs.Judgements.{IsFamily, IsKind, IsContext, IsTyping, IsClass, Fits}
use Rattle.lf_meaning.specs.HeadMaps.{HeadMap}
use Rattle.translation_meaning.specs.FunctionFamilies.{translate_context, translate_object, translate_family, translate_kind, translate_class, translate_value}
use Rattle.function_family_laws.specs.TypedFunctionMaps.{IsTypedFunctionTranslation}

-- The simple types of the variables of the translated context.
abbrev pub types_of : HeadMap → Context → SimpleContext
types_of along context = erase_context (translate_context along context)

abbrev pub family_in : HeadMap → Context → Family → Family
family_in along context family = translate_family along (types_of along context) family

-- An object is translated at the erasure of its translated family.
abbrev pub object_in : HeadMap → Context → Object → Family → Object
object_in along context object family = translate_object along (types_of along context) object (erase (family_in along context family))

-- A typed map carries each typing judgement of the source to one of the target.
abbrev pub TypingIsCarried : Type 0
TypingIsCarried =
    (from to : Signature) (along : HeadMap) (context : Context) (object : Object) (family : Family) → IsTypedFunctionTranslation from to along
    → IsTyping from context object family
    → IsTyping to (translate_context along context) (object_in along context object family) (family_in along context family)

-- So it does with well-formed contexts, families, kinds and classes.
abbrev pub ContextsAreCarried : Type 0
ContextsAreCarried =
    (from to : Signature) (along : HeadMap) (context : Context) → IsTypedFunctionTranslation from to along
    → IsContext from context → IsContext to (translate_context along context)

abbrev pub FamiliesAreCarried : Type 0
FamiliesAreCarried =
    (from to : Signature) (along : HeadMap) (context : Context) (family : Family) → IsTypedFunctionTranslation from to along
    → IsContext from context → IsFamily from context family
    → IsFamily to (translate_context along context) (family_in along context family)

abbrev pub KindsAreCarried : Type 0
KindsAreCarried =
    (from to : Signature) (along : HeadMap) (context : Context) (kind : Kind) → IsTypedFunctionTranslation from to along
    → IsContext from context → IsKind from context kind
    → IsKind to (translate_context along context) (translate_kind along (types_of along context) kind)

abbrev pub ClassesAreCarried : Type 0
ClassesAreCarried =
    (from to : Signature) (along : HeadMap) (class : Class) → IsTypedFunctionTranslation from to along
    → IsClass from class → IsClass to (translate_class along class)

-- A value that fits a class is carried to one that fits the translated class.
abbrev pub ValuesAreCarried : Type 0
ValuesAreCarried =
    (from to : Signature) (along : HeadMap) (class : Class) (value : Value) → IsTypedFunctionTranslation from to along
    → IsClass from class → Fits from value class
    → Fits to (translate_value along (translate_class along class) value) (translate_class along class)
