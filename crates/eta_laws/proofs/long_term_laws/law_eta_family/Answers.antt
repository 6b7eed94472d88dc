use Rattle.eta_laws.proofs.LongFamilies.{eta_family_is_applied, eta_family_keeps_erasures}
use Rattle.eta_laws.proofs.long_term_laws.law_eta_family.Goals as goal

pub returns-clause-applied : goal.returns-clause-applied
returns-clause-applied c = eta_family_is_applied

pub returns-clause-erasures : goal.returns-clause-erasures
returns-clause-erasures c = eta_family_keeps_erasures
