use Rattle.translation_laws.proofs.Spines.{spine_taken, family_spine_taken}
use Rattle.translation_laws.proofs.translation_laws.law_spines.Goals as goal

pub returns-clause-object : goal.returns-clause-object
returns-clause-object c = spine_taken

pub returns-clause-family : goal.returns-clause-family
returns-clause-family c = family_spine_taken
