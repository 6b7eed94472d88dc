use Rattle.function_family_laws.proofs.Laws.{objects_are_the_same, families_are_the_same, kinds_are_the_same, classes_are_the_same, values_are_the_same}
use Rattle.function_family_laws.proofs.function_translation.law_atomic_images.Goals as goal

pub returns-clause-object : goal.returns-clause-object
returns-clause-object c = objects_are_the_same

pub returns-clause-family : goal.returns-clause-family
returns-clause-family c = families_are_the_same

pub returns-clause-kind : goal.returns-clause-kind
returns-clause-kind c = kinds_are_the_same

pub returns-clause-class : goal.returns-clause-class
returns-clause-class c = classes_are_the_same

pub returns-clause-value : goal.returns-clause-value
returns-clause-value c = values_are_the_same
