use Rattle.function_family_laws.proofs.Laws.{raised_objects, raised_families, raised_kinds}
use Rattle.function_family_laws.proofs.function_translation.law_translation_raises.Goals as goal

pub returns-clause-object : goal.returns-clause-object
returns-clause-object c = raised_objects

pub returns-clause-family : goal.returns-clause-family
returns-clause-family c = raised_families

pub returns-clause-kind : goal.returns-clause-kind
returns-clause-kind c = raised_kinds
