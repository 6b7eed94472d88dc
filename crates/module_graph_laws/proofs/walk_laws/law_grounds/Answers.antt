use Rattle.module_graph_laws.proofs.Walking.{grounded_dependency, ungrounded_dependency}
use Rattle.module_graph_laws.proofs.walk_laws.law_grounds.Goals as goal

pub returns-clause-grounded : goal.returns-clause-grounded
returns-clause-grounded c = grounded_dependency

pub returns-clause-ungrounded : goal.returns-clause-ungrounded
returns-clause-ungrounded c = ungrounded_dependency
