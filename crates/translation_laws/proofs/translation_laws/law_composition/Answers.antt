use Rattle.translation_laws.proofs.Spines.{composed}
use Rattle.translation_laws.proofs.translation_laws.law_composition.Goals as goal

pub returns : goal.returns
returns c = composed
