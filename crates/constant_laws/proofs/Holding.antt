-- The laws of what terms hold.
use Rattle.std.proofs.Common.{refl}
use Rattle.constant_laws.specs.HoldingLaws.{HoldingGrows, RaisingHolds, SubstitutionHolds, FamilySubstitutionHolds, KindSubstitutionHolds}
use Rattle.constant_laws.specs.TranslationHolds.{TranslatedObjectHolds, TranslatedFamilyHolds, TranslatedKindHolds, TranslatedClassHolds, TranslatedValueHolds, TranslatedClassIsAlike}
use Rattle.constant_laws.proofs.Growing.{object_grows}
use Rattle.constant_laws.proofs.Translating.{object_translated, family_translated, kind_translated, class_translated, value_translated, translated_alike}
use Rattle.constant_laws.proofs.Replaced.{raise_holds, substitute_holds, substitute_family_holds, substitute_kind_holds}

pub holding_grows : HoldingGrows
holding_grows from to m v w g l h = object_grows from to g m v w l h

pub raising_holds : RaisingHolds
raising_holds signature k n v m h = raise_holds signature k n v _ m refl h

pub substitution_holds : SubstitutionHolds
substitution_holds signature value t v n m h g = substitute_holds signature value t v h m n _ _ (refl, refl) g

pub family_substitution_holds : FamilySubstitutionHolds
family_substitution_holds signature value t v n a h g = substitute_family_holds signature value t v h a n _ _ (refl, refl) g

pub kind_substitution_holds : KindSubstitutionHolds
kind_substitution_holds signature value t v n k h g = substitute_kind_holds signature value t v h k n _ _ (refl, refl) g

pub translated_object_holds : TranslatedObjectHolds
translated_object_holds from to along v m into h = object_translated from to along into m v h

pub translated_family_holds : TranslatedFamilyHolds
translated_family_holds from to along v a into h = family_translated from to along into a v h

pub translated_kind_holds : TranslatedKindHolds
translated_kind_holds from to along v k into h = kind_translated from to along into k v h

pub translated_class_holds : TranslatedClassHolds
translated_class_holds from to along class into h = class_translated from to along into class h

pub translated_value_holds : TranslatedValueHolds
translated_value_holds from to along class value into h = value_translated from to along into class value h

pub translated_class_is_alike : TranslatedClassIsAlike
translated_class_is_alike along class = translated_alike along class
