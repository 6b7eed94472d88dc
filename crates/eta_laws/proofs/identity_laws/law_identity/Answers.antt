use Rattle.eta_laws.proofs.IdentityTyping.{eta_variable_checks, eta_checks, eta_family_is_family}
use Rattle.eta_laws.proofs.identity_laws.law_identity.Goals as goal

pub returns-clause-variable : goal.returns-clause-variable
returns-clause-variable c = eta_variable_checks

pub returns-clause-atomic : goal.returns-clause-atomic
returns-clause-atomic c = eta_checks

pub returns-clause-family : goal.returns-clause-family
returns-clause-family c = eta_family_is_family
