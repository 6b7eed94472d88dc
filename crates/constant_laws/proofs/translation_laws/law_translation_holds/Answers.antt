use Rattle.constant_laws.proofs.Translating.{coherent_maps_into}
use Rattle.constant_laws.proofs.Holding.{translated_object_holds, translated_family_holds, translated_kind_holds, translated_class_holds, translated_value_holds, translated_class_is_alike}
use Rattle.constant_laws.proofs.translation_laws.law_translation_holds.Goals as goal

pub returns-clause-object : goal.returns-clause-object
returns-clause-object c = translated_object_holds

pub returns-clause-family : goal.returns-clause-family
returns-clause-family c = translated_family_holds

pub returns-clause-kind : goal.returns-clause-kind
returns-clause-kind c = translated_kind_holds

pub returns-clause-class : goal.returns-clause-class
returns-clause-class c = translated_class_holds

pub returns-clause-value : goal.returns-clause-value
returns-clause-value c = translated_value_holds

pub returns-clause-alike : goal.returns-clause-alike
returns-clause-alike c = translated_class_is_alike

pub returns-clause-coherent : goal.returns-clause-coherent
returns-clause-coherent c = coherent_maps_into
