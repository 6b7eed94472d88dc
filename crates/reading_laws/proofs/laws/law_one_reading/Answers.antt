use Rattle.reading_laws.proofs.OneAnswer.{one_reading, one_spelled}
use Rattle.reading_laws.proofs.laws.law_one_reading.Goals as goal

pub returns-clause-reading : goal.returns-clause-reading
returns-clause-reading c = one_reading

pub returns-clause-trees : goal.returns-clause-trees
returns-clause-trees c = one_spelled
