use Rattle.token_laws.proofs.CutExamples.{cut_examples}
use Rattle.token_laws.proofs.laws.law_cut_examples.Goals as goal

pub returns : goal.returns
returns c = cut_examples
