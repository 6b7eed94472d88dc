use Rattle.fault_laws.proofs.Grounds.{cycles_are_ungrounded, verdicts_decide_grounds}
use Rattle.fault_laws.proofs.fault_laws.law_cycle_refusals.Goals as goal

pub returns-clause-cycles : goal.returns-clause-cycles
returns-clause-cycles c = cycles_are_ungrounded

pub returns-clause-grounds : goal.returns-clause-grounds
returns-clause-grounds c = verdicts_decide_grounds
