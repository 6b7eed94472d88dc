use Rattle.file_laws.proofs.DivisionExamples.{division_examples}
use Rattle.file_laws.proofs.laws.law_division_examples.Goals as goal

pub returns : goal.returns
returns c = division_examples
