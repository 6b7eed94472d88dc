use Rattle.translation_laws.proofs.Differing.{difference_is_first, agree_is_one_value}
use Rattle.translation_laws.proofs.translation_laws.law_differ.Goals as goal

pub returns-clause-first : goal.returns-clause-first
returns-clause-first c = difference_is_first

pub returns-clause-agree : goal.returns-clause-agree
returns-clause-agree c = agree_is_one_value
