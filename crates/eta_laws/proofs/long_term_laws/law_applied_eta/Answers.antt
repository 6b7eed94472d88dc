use Rattle.eta_laws.proofs.Identity.{eta_app, eta_reduce}
use Rattle.eta_laws.proofs.long_term_laws.law_applied_eta.Goals as goal

pub returns-clause-one : goal.returns-clause-one
returns-clause-one c = eta_app

pub returns-clause-all : goal.returns-clause-all
returns-clause-all c = eta_reduce
