use Rattle.fault_laws.proofs.FaultsWithin.{refusals_stand_in_texts}
use Rattle.fault_laws.proofs.Grounds.{verdicts_stand_in_texts}
use Rattle.fault_laws.proofs.fault_laws.law_refusal_places.Goals as goal

pub returns-clause-judged : goal.returns-clause-judged
returns-clause-judged c = refusals_stand_in_texts

pub returns-clause-library : goal.returns-clause-library
returns-clause-library c = verdicts_stand_in_texts
