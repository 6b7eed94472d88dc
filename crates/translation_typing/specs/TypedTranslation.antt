-- Translation along a typed map keeps typing, and commutes with raising and substitution (Rabe and Kohlhase 2013, section 4:
-- morphisms preserve judgements).
use Rattle.std.specs.Prelude.{◌≡◌, ℕ, Some, ◌∷◌, ◌++◌, length, map}
use Rattle.lf_meaning.specs.Terms.{Constant, Object, Family, Kind, Context}
use Rattle.lf_meaning.specs.Raising.{raise, raise_family, raise_kind}
use Rattle.lf_meaning.specs.Erasure.{erase}
use Rattle.lf_meaning.specs.Substitution.{substitute, substitute_family, substitute_kind}
use Rattle.lf_meaning.specs.Signatures.{Class, Value, Signature, class_of}
use Rattle.lf_meaning.specs.Judgements.{Checks, IsFamily, IsKind, IsContext, IsTyping, IsClass, Fits, IsSignature}
use Rattle.lf_meaning.specs.HeadMaps.{Image, HeadMap, image_of}
use Rattle.translation_meaning.specs.Translation.{translate_object, translate_family, translate_kind, translate_class, translate_value}
use Rattle.translation_meaning.specs.TypedMaps.{IsTypedMap}
use Rattle.translation_typing.specs.AtomicBodies.{HasAtomicBody}

-- The families of the context, translated.
abbrev pub translate_context : HeadMap → Context → Context
translate_context along context = map (translate_family along) context

-- A family that is the value of the image of a constant of the signature is atomic below its binders. Of the images of other
-- constants nothing is said.
abbrev pub BodiesAreAtomicOver : Signature → HeadMap → Type 0
BodiesAreAtomicOver from along =
    (constant : Constant) (class : Class) (image : Image) → class_of from constant ≡ Some class → image_of along constant ≡ Some image
    → HasAtomicBody image.value

-- The map is typed from one well-typed signature to another.
pub record IsTypedTranslation (from to : Signature) (along : HeadMap) : Type 0 where
  pub source : IsSignature from
  pub target : IsSignature to
  pub typed : IsTypedMap from to along
  pub atomic : BodiesAreAtomicOver from along

-- It carries each typing judgement of the source to one of the target.
abbrev pub TypingIsCarried : Type 0
TypingIsCarried =
    (from to : Signature) (along : HeadMap) (context : Context) (object : Object) (family : Family) → IsTypedTranslation from to along
    → IsTyping from context object family
    → IsTyping to (translate_context along context) (translate_object along object) (translate_family along family)

-- So it does with well-formed contexts, families, kinds and classes.
abbrev pub ContextsAreCarried : Type 0
ContextsAreCarried =
    (from to : Signature) (along : HeadMap) (context : Context) → IsTypedTranslation from to along
    → IsContext from context → IsContext to (translate_context along context)

abbrev pub FamiliesAreCarried : Type 0
FamiliesAreCarried =
    (from to : Signature) (along : HeadMap) (context : Context) (family : Family) → IsTypedTranslation from to along
    → IsContext from context → IsFamily from context family
    → IsFamily to (translate_context along context) (translate_family along family)

abbrev pub KindsAreCarried : Type 0
KindsAreCarried =
    (from to : Signature) (along : HeadMap) (context : Context) (kind : Kind) → IsTypedTranslation from to along
    → IsContext from context → IsKind from context kind
    → IsKind to (translate_context along context) (translate_kind along kind)

abbrev pub ClassesAreCarried : Type 0
ClassesAreCarried =
    (from to : Signature) (along : HeadMap) (class : Class) → IsTypedTranslation from to along
    → IsClass from class → IsClass to (translate_class along class)

-- A value that fits a class is carried to one that fits the translated class.
abbrev pub ValuesAreCarried : Type 0
ValuesAreCarried =
    (from to : Signature) (along : HeadMap) (class : Class) (value : Value) → IsTypedTranslation from to along
    → IsClass from class → Fits from value class
    → Fits to (translate_value along value) (translate_class along class)

-- Translation commutes with raising.
abbrev pub RaisedObjectsAreTranslated : Type 0
RaisedObjectsAreTranslated =
    (from to : Signature) (along : HeadMap) (context : Context) (object : Object) (family : Family) (by at : ℕ) → IsTypedTranslation from to along
    → Checks from context object family
    → translate_object along (raise by at object) ≡ raise by at (translate_object along object)

abbrev pub RaisedFamiliesAreTranslated : Type 0
RaisedFamiliesAreTranslated =
    (from to : Signature) (along : HeadMap) (context : Context) (family : Family) (by at : ℕ) → IsTypedTranslation from to along
    → IsFamily from context family
    → translate_family along (raise_family by at family) ≡ raise_family by at (translate_family along family)

abbrev pub RaisedKindsAreTranslated : Type 0
RaisedKindsAreTranslated =
    (from to : Signature) (along : HeadMap) (context : Context) (kind : Kind) (by at : ℕ) → IsTypedTranslation from to along
    → IsKind from context kind
    → translate_kind along (raise_kind by at kind) ≡ raise_kind by at (translate_kind along kind)

-- Translation commutes with substitution, which is then at the erasure of the translated family.
abbrev pub SubstitutedObjectsAreTranslated : Type 0
SubstitutedObjectsAreTranslated =
    (from to : Signature) (along : HeadMap) (after before : Context) (value object : Object) (of family : Family) → IsTypedTranslation from to along
    → IsFamily from before of → Checks from before value of → Checks from (after ++ (of ∷ before)) object family
    → translate_object along (substitute value (erase of) (length after) object)
    ≡ substitute (translate_object along value) (erase (translate_family along of)) (length after) (translate_object along object)

abbrev pub SubstitutedFamiliesAreTranslated : Type 0
SubstitutedFamiliesAreTranslated =
    (from to : Signature) (along : HeadMap) (after before : Context) (value : Object) (of family : Family) → IsTypedTranslation from to along
    → IsFamily from before of → Checks from before value of → IsFamily from (after ++ (of ∷ before)) family
    → translate_family along (substitute_family value (erase of) (length after) family)
    ≡ substitute_family (translate_object along value) (erase (translate_family along of)) (length after) (translate_family along family)

abbrev pub SubstitutedKindsAreTranslated : Type 0
SubstitutedKindsAreTranslated =
    (from to : Signature) (along : HeadMap) (after before : Context) (value : Object) (of : Family) (kind : Kind) → IsTypedTranslation from to along
    → IsFamily from before of → Checks from before value of → IsKind from (after ++ (of ∷ before)) kind
    → translate_kind along (substitute_kind value (erase of) (length after) kind)
    ≡ substitute_kind (translate_object along value) (erase (translate_family along of)) (length after) (translate_kind along kind)
