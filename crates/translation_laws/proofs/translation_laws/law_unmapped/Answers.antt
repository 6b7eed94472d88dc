use Rattle.translation_laws.proofs.FirstUnmapped.{first_is_found}
use Rattle.translation_laws.proofs.translation_laws.law_unmapped.Goals as goal

pub returns : goal.returns
returns c = first_is_found
