use Rattle.eta_laws.proofs.IdentityTyping.{expanded_atomic_checks, expanded_checked}
use Rattle.eta_laws.proofs.identity_laws.law_outcome.Goals as goal

pub returns-clause-atomic : goal.returns-clause-atomic
returns-clause-atomic c = expanded_atomic_checks

pub returns-clause-checked : goal.returns-clause-checked
returns-clause-checked c = expanded_checked
