use Rattle.translation_laws.proofs.ValuesOut.{objects_come_out, families_come_out}
use Rattle.translation_laws.proofs.translation_laws.law_values.Goals as goal

pub returns-clause-objects : goal.returns-clause-objects
returns-clause-objects c = objects_come_out

pub returns-clause-families : goal.returns-clause-families
returns-clause-families c = families_come_out
