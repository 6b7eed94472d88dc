use Rattle.lf_term_laws.proofs.Spines.{takes_is_app}
use Rattle.lf_term_laws.proofs.application_laws.law_app.Goals as goal

pub returns-clause-head : goal.returns-clause-head
returns-clause-head c = takes_is_app
