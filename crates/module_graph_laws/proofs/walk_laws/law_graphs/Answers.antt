use Rattle.module_graph_laws.proofs.Graphs.{graph_reaches, graph_grounds, graph_is_ungrounded, edited_holds, empty_holds}
use Rattle.module_graph_laws.proofs.walk_laws.law_graphs.Goals as goal

pub returns-clause-reach : goal.returns-clause-reach
returns-clause-reach c graph dependencies library name holds = graph_reaches graph dependencies library holds name

pub returns-clause-grounds : goal.returns-clause-grounds
returns-clause-grounds c = graph_grounds

pub returns-clause-ungrounded : goal.returns-clause-ungrounded
returns-clause-ungrounded c graph dependencies library name holds = graph_is_ungrounded graph dependencies library holds name

pub returns-clause-edited : goal.returns-clause-edited
returns-clause-edited c graph dependencies library edit holds = edited_holds graph dependencies library holds edit

pub returns-clause-empty : goal.returns-clause-empty
returns-clause-empty c = empty_holds
