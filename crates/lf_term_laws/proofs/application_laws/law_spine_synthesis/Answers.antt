use Rattle.lf_term_laws.proofs.SpineSynthesis.{synthesised_spine, synthesised_kind_spine, fault_stays, kind_fault_stays}
use Rattle.lf_term_laws.proofs.application_laws.law_spine_synthesis.Goals as goal

pub returns-clause-object : goal.returns-clause-object
returns-clause-object c = synthesised_spine

pub returns-clause-family : goal.returns-clause-family
returns-clause-family c = synthesised_kind_spine

pub returns-clause-fault : goal.returns-clause-fault
returns-clause-fault c = fault_stays

pub returns-clause-family_fault : goal.returns-clause-family_fault
returns-clause-family_fault c = kind_fault_stays
