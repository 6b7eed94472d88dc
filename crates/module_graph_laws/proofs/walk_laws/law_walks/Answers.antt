use Rattle.module_graph_laws.proofs.Walking.{walking_decides, ungrounded_decides, ungrounded_walks_on}
use Rattle.module_graph_laws.proofs.walk_laws.law_walks.Goals as goal

pub returns-clause-counted : goal.returns-clause-counted
returns-clause-counted c = walking_decides

pub returns-clause-ungrounded : goal.returns-clause-ungrounded
returns-clause-ungrounded c = ungrounded_decides

pub returns-clause-for_ever : goal.returns-clause-for_ever
returns-clause-for_ever c = ungrounded_walks_on
