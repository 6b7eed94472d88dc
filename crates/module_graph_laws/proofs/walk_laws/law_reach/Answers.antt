use Rattle.module_graph_laws.proofs.Reaching.{reach_decides, reach_ascending}
use Rattle.module_graph_laws.proofs.walk_laws.law_reach.Goals as goal

pub returns-clause-reached : goal.returns-clause-reached
returns-clause-reached c = reach_decides

pub returns-clause-ascending : goal.returns-clause-ascending
returns-clause-ascending c = reach_ascending
