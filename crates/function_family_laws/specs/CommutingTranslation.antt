-- Translation along a typed map whose families may be functions commutes with raising and with hereditary substitution, for what is
-- well sorted over the source.
use Rattle.std.specs.Prelude.{◌≡◌, ◌∷◌, ◌++◌, length, map}
use Rattle.lf_meaning.specs.Terms.{Object, Family, Kind, Simple, SimpleContext}
use Rattle.lf_meaning.specs.Raising.{raise, raise_family, raise_kind}
use Rattle.lf_meaning.specs.Substitution.{substitute, substitute_family, substitute_kind}
use Rattle.lf_meaning.specs.Signatures.{Signature}
use Rattle.lf_meaning.specs.Sorts.{HasSort, sorts_of}
use Rattle.lf_meaning.specs.HeadMaps.{HeadMap}
use Rattle.translation_meaning.specs.FunctionFamilies.{translate_simple, translate_object, translate_family, translate_kind}
use Rattle.translation_typing.specs.KindedFamilies.{IsKinded, IsKindedKind}
use Rattle.function_family_laws.specs.TypedFunctionMaps.{IsTypedFunctionTranslation}

-- The types of new variables come between two lists: what is translated in the two lists and then raised over the new variables is
-- what is raised first and then translated in all three lists. So it is for an object with some sort in some context, at any simple type and with any types of variables.
abbrev pub RaisedObjectsAreTranslated : Type 0
RaisedObjectsAreTranslated =
    (from to : Signature) (along : HeadMap) (source after between before : SimpleContext) (object : Object) (sort t : Simple) → IsTypedFunctionTranslation from to along
    → HasSort (sorts_of from) source object sort
    → raise (length between) (length after) (translate_object along (after ++ before) object t)
    ≡ translate_object along (after ++ (between ++ before)) (raise (length between) (length after) object) t

-- For families and kinds the two lists together are the translated types of a context in which they are well sorted.
abbrev pub RaisedFamiliesAreTranslated : Type 0
RaisedFamiliesAreTranslated =
    (from to : Signature) (along : HeadMap) (source after between before : SimpleContext) (family : Family) → IsTypedFunctionTranslation from to along
    → after ++ before ≡ map (translate_simple along) source → IsKinded from source family
    → raise_family (length between) (length after) (translate_family along (after ++ before) family)
    ≡ translate_family along (after ++ (between ++ before)) (raise_family (length between) (length after) family)

abbrev pub RaisedKindsAreTranslated : Type 0
RaisedKindsAreTranslated =
    (from to : Signature) (along : HeadMap) (source after between before : SimpleContext) (kind : Kind) → IsTypedFunctionTranslation from to along
    → after ++ before ≡ map (translate_simple along) source → IsKindedKind from source kind
    → raise_kind (length between) (length after) (translate_kind along (after ++ before) kind)
    ≡ translate_kind along (after ++ (between ++ before)) (raise_kind (length between) (length after) kind)

-- What is substituted and then translated is what is translated and then substituted, at the translated simple type.
abbrev pub SubstitutedObjectsAreTranslated : Type 0
SubstitutedObjectsAreTranslated =
    (from to : Signature) (along : HeadMap) (after before : SimpleContext) (value object : Object) (s t : Simple) → IsTypedFunctionTranslation from to along
    → HasSort (sorts_of from) before value s → HasSort (sorts_of from) (after ++ (s ∷ before)) object t
    → translate_object along (map (translate_simple along) after ++ map (translate_simple along) before) (substitute value s (length after) object) (translate_simple along t)
    ≡ substitute (translate_object along (map (translate_simple along) before) value (translate_simple along s)) (translate_simple along s) (length after)
    (translate_object along (map (translate_simple along) after ++ (translate_simple along s ∷ map (translate_simple along) before)) object (translate_simple along t))

abbrev pub SubstitutedFamiliesAreTranslated : Type 0
SubstitutedFamiliesAreTranslated =
    (from to : Signature) (along : HeadMap) (after before : SimpleContext) (value : Object) (s : Simple) (family : Family) → IsTypedFunctionTranslation from to along
    → HasSort (sorts_of from) before value s → IsKinded from (after ++ (s ∷ before)) family
    → translate_family along (map (translate_simple along) after ++ map (translate_simple along) before) (substitute_family value s (length after) family)
    ≡ substitute_family (translate_object along (map (translate_simple along) before) value (translate_simple along s)) (translate_simple along s) (length after)
    (translate_family along (map (translate_simple along) after ++ (translate_simple along s ∷ map (translate_simple along) before)) family)

abbrev pub SubstitutedKindsAreTranslated : Type 0
SubstitutedKindsAreTranslated =
    (from to : Signature) (along : HeadMap) (after before : SimpleContext) (value : Object) (s : Simple) (kind : Kind) → IsTypedFunctionTranslation from to along
    → HasSort (sorts_of from) before value s → IsKindedKind from (after ++ (s ∷ before)) kind
    → translate_kind along (map (translate_simple along) after ++ map (translate_simple along) before) (substitute_kind value s (length after) kind)
    ≡ substitute_kind (translate_object along (map (translate_simple along) before) value (translate_simple along s)) (translate_simple along s) (length after)
    (translate_kind along (map (translate_simple along) after ++ (translate_simple along s ∷ map (translate_simple along) before)) kind)
