use Rattle.translation_typing.proofs.Composed.{objects_are_composed, families_are_composed, kinds_are_composed, classes_are_composed, values_are_composed, composition_is_typed, composition_is_proper}
use Rattle.translation_typing.proofs.typing_laws.law_translation_composes.Goals as goal

pub returns-clause-object : goal.returns-clause-object
returns-clause-object c = objects_are_composed

pub returns-clause-family : goal.returns-clause-family
returns-clause-family c = families_are_composed

pub returns-clause-kind : goal.returns-clause-kind
returns-clause-kind c = kinds_are_composed

pub returns-clause-class : goal.returns-clause-class
returns-clause-class c = classes_are_composed

pub returns-clause-value : goal.returns-clause-value
returns-clause-value c = values_are_composed

pub returns-clause-typed : goal.returns-clause-typed
returns-clause-typed c = composition_is_typed

pub returns-clause-proper : goal.returns-clause-proper
returns-clause-proper c = composition_is_proper
