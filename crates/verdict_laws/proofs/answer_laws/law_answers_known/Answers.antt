use Rattle.verdict_laws.proofs.KnownAnswers.{answers_are_known}
use Rattle.verdict_laws.proofs.answer_laws.law_answers_known.Goals as goal

pub returns : goal.returns
returns c = answers_are_known
