use Rattle.verdict_examples.proofs.Computed.{shared_inclusion, ambiguous_name, qualified_name}
use Rattle.verdict_examples.proofs.examples.inclusions.Goals as goal

pub returns-clause-shared_inclusion : goal.returns-clause-shared_inclusion
returns-clause-shared_inclusion c = shared_inclusion

pub returns-clause-ambiguous_name : goal.returns-clause-ambiguous_name
returns-clause-ambiguous_name c = ambiguous_name

pub returns-clause-qualified_name : goal.returns-clause-qualified_name
returns-clause-qualified_name c = qualified_name
