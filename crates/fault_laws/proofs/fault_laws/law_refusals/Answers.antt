use Rattle.fault_laws.proofs.FaultsWithin.{link_within, declaration_within}
use Rattle.fault_laws.proofs.fault_laws.law_refusals.Goals as goal

pub returns-clause-link : goal.returns-clause-link
returns-clause-link c = link_within

pub returns-clause-declaration : goal.returns-clause-declaration
returns-clause-declaration c = declaration_within
