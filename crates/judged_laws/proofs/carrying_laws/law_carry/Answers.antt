use Rattle.judged_laws.proofs.Translated.{carry_is_translation}
use Rattle.judged_laws.proofs.carrying_laws.law_carry.Goals as goal

pub returns : goal.returns
returns c = record { translation = carry_is_translation }
