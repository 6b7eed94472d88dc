use Rattle.reading_laws.proofs.OneAnswer.{one_answer}
use Rattle.reading_laws.proofs.laws.law_one_answer.Goals as goal

pub returns : goal.returns
returns c = one_answer
