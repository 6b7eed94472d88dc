use Rattle.verdict_laws.proofs.Verdicts.{ungrounded_is_cycle}
use Rattle.verdict_laws.proofs.verdict_laws.law_cycles.Goals as goal

pub returns : goal.returns
returns c = ungrounded_is_cycle
