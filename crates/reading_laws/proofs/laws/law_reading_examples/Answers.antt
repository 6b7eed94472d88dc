use Rattle.reading_laws.proofs.ReadingExamples.{reading_examples}
use Rattle.reading_laws.proofs.laws.law_reading_examples.Goals as goal

pub returns : goal.returns
returns c = reading_examples
