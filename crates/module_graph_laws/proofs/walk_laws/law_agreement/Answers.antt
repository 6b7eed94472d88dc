use Rattle.module_graph_laws.proofs.Agreement.{reach_same, grounded_same}
use Rattle.module_graph_laws.proofs.walk_laws.law_agreement.Goals as goal

pub returns-clause-reach : goal.returns-clause-reach
returns-clause-reach c = reach_same

pub returns-clause-grounds : goal.returns-clause-grounds
returns-clause-grounds c = grounded_same
