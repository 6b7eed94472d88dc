use Rattle.verdict_laws.proofs.Verdicts.{verdict_keeps_to_reach, verdict_rests_on_verdicts}
use Rattle.verdict_laws.proofs.verdict_laws.law_reach_decides.Goals as goal

pub returns-clause-texts : goal.returns-clause-texts
returns-clause-texts c = verdict_keeps_to_reach

pub returns-clause-verdicts : goal.returns-clause-verdicts
returns-clause-verdicts c = verdict_rests_on_verdicts
