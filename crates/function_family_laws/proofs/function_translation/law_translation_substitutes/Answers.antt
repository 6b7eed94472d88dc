use Rattle.function_family_laws.proofs.Laws.{substituted_objects, substituted_families, substituted_kinds}
use Rattle.function_family_laws.proofs.function_translation.law_translation_substitutes.Goals as goal

pub returns-clause-object : goal.returns-clause-object
returns-clause-object c = substituted_objects

pub returns-clause-family : goal.returns-clause-family
returns-clause-family c = substituted_families

pub returns-clause-kind : goal.returns-clause-kind
returns-clause-kind c = substituted_kinds
