use Rattle.judged_laws.proofs.Computed.{carried_judgement, changed_prefix, cycle}
use Rattle.judged_laws.proofs.examples.views.Goals as goal

pub returns-clause-carried_judgement : goal.returns-clause-carried_judgement
returns-clause-carried_judgement c = carried_judgement

pub returns-clause-changed_prefix : goal.returns-clause-changed_prefix
returns-clause-changed_prefix c = changed_prefix

pub returns-clause-cycle : goal.returns-clause-cycle
returns-clause-cycle c = cycle
