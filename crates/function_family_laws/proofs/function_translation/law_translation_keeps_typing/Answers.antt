use Rattle.function_family_laws.proofs.Laws.{typing_is_carried, contexts_are_carried, families_are_carried, kinds_are_carried, classes_are_carried, values_are_carried}
use Rattle.function_family_laws.proofs.function_translation.law_translation_keeps_typing.Goals as goal

pub returns-clause-typing : goal.returns-clause-typing
returns-clause-typing c = typing_is_carried

pub returns-clause-context : goal.returns-clause-context
returns-clause-context c = contexts_are_carried

pub returns-clause-family : goal.returns-clause-family
returns-clause-family c = families_are_carried

pub returns-clause-kind : goal.returns-clause-kind
returns-clause-kind c = kinds_are_carried

pub returns-clause-class : goal.returns-clause-class
returns-clause-class c = classes_are_carried

pub returns-clause-value : goal.returns-clause-value
returns-clause-value c = values_are_carried
