use Rattle.function_family_laws.proofs.Computed.{images_are_translated, one_after_the_other, both_at_once}
use Rattle.function_family_laws.proofs.examples.composition_examples.Goals as goal

pub returns-clause-images_are_translated : goal.returns-clause-images_are_translated
returns-clause-images_are_translated c = images_are_translated

pub returns-clause-one_after_the_other : goal.returns-clause-one_after_the_other
returns-clause-one_after_the_other c = one_after_the_other

pub returns-clause-both_at_once : goal.returns-clause-both_at_once
returns-clause-both_at_once c = both_at_once
