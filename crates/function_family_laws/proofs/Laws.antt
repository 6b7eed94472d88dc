-- The laws, from what is carried along typed images.
use Rattle.std.proofs.Common.{map, refl}
use Rattle.lf_meaning.specs.Terms.{Constant, Simple}
use Rattle.lf_meaning.specs.Substitution.{Typed}
use Rattle.lf_meaning.specs.Signatures.{Signature}
use Rattle.lf_meaning.specs.Sorts.{sorts_of}
use Rattle.lf_meaning.specs.HeadMaps.{HeadMap}
use Rattle.translation_meaning.specs.FunctionFamilies.{PartialFamily, bases_along, objects_along, families_along, translate_simple}
use Rattle.function_family_laws.specs.TypedFunctionMaps.{IsTypedFunctionTranslation}
use Rattle.function_family_laws.specs.CommutingTranslation.{RaisedObjectsAreTranslated, RaisedFamiliesAreTranslated, RaisedKindsAreTranslated, SubstitutedObjectsAreTranslated, SubstitutedFamiliesAreTranslated, SubstitutedKindsAreTranslated}
use Rattle.function_family_laws.specs.TypedTranslation.{TypingIsCarried, ContextsAreCarried, FamiliesAreCarried, KindsAreCarried, ClassesAreCarried, ValuesAreCarried}
use Rattle.function_family_laws.specs.AtomicImages.{ObjectsAreTheSame, FamiliesAreTheSame, KindsAreTheSame, ClassesAreTheSame, ValuesAreTheSame}
use Rattle.function_family_laws.proofs.CarriedObjects.{AreTypedObjects, raise_carried, carried_commutes}
use Rattle.function_family_laws.proofs.CarriedFamilies.{AreTypedFamilies, raise_family_carried, raise_kind_carried, family_substituted, kind_substituted}
use Rattle.function_family_laws.proofs.CarriedTyping.{AreTypedImages, typed_objects, typed_families, family_translated, kind_translated, context_translated}
use Rattle.function_family_laws.proofs.TypedImages.{Images, images_of_map, images_typed, class_translated, typing_carried, value_carried}
use Rattle.function_family_laws.proofs.AtomicImages.{object_same, family_same, kind_same, class_same, value_same}

module _ (from to : Signature) (along : HeadMap) (is : IsTypedFunctionTranslation from to along) where
  abbrev objects : Constant → Typed
  objects = objects_along along

  abbrev families : Constant → PartialFamily
  families = families_along along

  abbrev bases : Constant → Simple
  bases = bases_along along

  images : Images from to along
  images = images_of_map from to along is.typed

  typed : AreTypedImages objects families bases from to
  typed = images_typed to is.target along from is.source images

  objects_typed : AreTypedObjects objects bases (sorts_of from) (sorts_of to)
  objects_typed = typed_objects objects families bases from to typed

  families_typed : AreTypedFamilies families bases from (sorts_of to)
  families_typed = typed_families objects families bases from to typed

-- ---- raising and substitution

pub raised_objects : RaisedObjectsAreTranslated
raised_objects from to along source after between before object sort t is h = raise_carried (objects_along along) (bases_along along) (sorts_of from) (sorts_of to) (objects_typed from to along is) between before after source object sort t h

pub raised_families : RaisedFamiliesAreTranslated
raised_families from to along source after between before a is e h =
    raise_family_carried (objects_along along) (families_along along) (bases_along along) from (sorts_of to) (objects_typed from to along is) (families_typed from to along is) between before source after a e h

pub raised_kinds : RaisedKindsAreTranslated
raised_kinds from to along source after between before k is e h =
    raise_kind_carried (objects_along along) (families_along along) (bases_along along) from (sorts_of to) (objects_typed from to along is) (families_typed from to along is) between before source after k e h

pub substituted_objects : SubstitutedObjectsAreTranslated
substituted_objects from to along after before v m s t is g h =
    carried_commutes (objects_along along) (bases_along along) (sorts_of from) (sorts_of to) (objects_typed from to along is) after before (map (translate_simple along) before) v m s t refl g h

pub substituted_families : SubstitutedFamiliesAreTranslated
substituted_families from to along after before v s a is g h =
    family_substituted (objects_along along) (families_along along) (bases_along along) from (sorts_of to) (objects_typed from to along is) (families_typed from to along is) before (map (translate_simple along) before) refl v s g after a h

pub substituted_kinds : SubstitutedKindsAreTranslated
substituted_kinds from to along after before v s k is g h =
    kind_substituted (objects_along along) (families_along along) (bases_along along) from (sorts_of to) (objects_typed from to along is) (families_typed from to along is) before (map (translate_simple along) before) refl v s g after k h

-- ---- typing

pub typing_is_carried : TypingIsCarried
typing_is_carried from to along context m a is h = typing_carried to is.target along from is.source (images from to along is) context m a h

pub contexts_are_carried : ContextsAreCarried
contexts_are_carried from to along context is c = context_translated (objects_along along) (families_along along) (bases_along along) from to (typed from to along is) is.source is.target context c

pub families_are_carried : FamiliesAreCarried
families_are_carried from to along context a is c h =
    family_translated (objects_along along) (families_along along) (bases_along along) from to (typed from to along is) is.source is.target context a c (contexts_are_carried from to along context is c) h

pub kinds_are_carried : KindsAreCarried
kinds_are_carried from to along context k is c h =
    kind_translated (objects_along along) (families_along along) (bases_along along) from to (typed from to along is) is.source is.target context k c (contexts_are_carried from to along context is c) h

pub classes_are_carried : ClassesAreCarried
classes_are_carried from to along class is h = class_translated to is.target along from is.source (typed from to along is) class h

pub values_are_carried : ValuesAreCarried
values_are_carried from to along class value is c h = value_carried to is.target along from is.source (images from to along is) class value c h

-- ---- where each family is atomic

pub objects_are_the_same : ObjectsAreTheSame
objects_are_the_same from to along context m t is atomic h = object_same to is.target along atomic from is.source (images from to along is) context (map (translate_simple along) context) m t refl h

pub families_are_the_same : FamiliesAreTheSame
families_are_the_same from to along context a is atomic h = family_same to is.target along atomic from is.source (images from to along is) context (map (translate_simple along) context) a refl h

pub kinds_are_the_same : KindsAreTheSame
kinds_are_the_same from to along context k is atomic h = kind_same to is.target along atomic from is.source (images from to along is) context (map (translate_simple along) context) k refl h

pub classes_are_the_same : ClassesAreTheSame
classes_are_the_same from to along class is atomic h = class_same to is.target along atomic from is.source (images from to along is) class h

pub values_are_the_same : ValuesAreTheSame
values_are_the_same from to along class value is atomic c h = value_same to is.target along atomic from is.source (images from to along is) class value h
