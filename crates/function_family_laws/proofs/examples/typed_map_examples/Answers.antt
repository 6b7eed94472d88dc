use Rattle.function_family_laws.proofs.TypedExamples.{typed_at_family, typed_at_constant, values_agree, values_differ}
use Rattle.function_family_laws.proofs.examples.typed_map_examples.Goals as goal

pub returns-clause-typed_at_family : goal.returns-clause-typed_at_family
returns-clause-typed_at_family c = typed_at_family

pub returns-clause-typed_at_constant : goal.returns-clause-typed_at_constant
returns-clause-typed_at_constant c = typed_at_constant

pub returns-clause-values_agree : goal.returns-clause-values_agree
returns-clause-values_agree c = values_agree

pub returns-clause-values_differ : goal.returns-clause-values_differ
returns-clause-values_differ c = values_differ
