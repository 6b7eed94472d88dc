use Rattle.verdict_laws.proofs.Verdicts.{present_names_have_verdicts, verdict_is_judged}
use Rattle.verdict_laws.proofs.verdict_laws.law_verdicts.Goals as goal

pub returns-clause-present : goal.returns-clause-present
returns-clause-present c = present_names_have_verdicts

pub returns-clause-judged : goal.returns-clause-judged
returns-clause-judged c = verdict_is_judged
