use Rattle.constant_laws.proofs.Translating.{composition_is_coherent}
use Rattle.constant_laws.proofs.translation_laws.law_composition_holds.Goals as goal

pub returns : goal.returns
returns c = composition_is_coherent
