use Rattle.library_laws.proofs.ClosureKept.{inclusion_keeps, closure_is_closure}
use Rattle.library_laws.proofs.ClosureMembers.{inclusion_adds, closure_has_exactly, closure_in_order}
use Rattle.library_laws.proofs.closure_laws.law_closure.Goals as goal

pub returns-clause-step : goal.returns-clause-step
returns-clause-step c = inclusion_keeps

pub returns-clause-closure : goal.returns-clause-closure
returns-clause-closure c = closure_is_closure

pub returns-clause-adds : goal.returns-clause-adds
returns-clause-adds c = inclusion_adds

pub returns-clause-exactly : goal.returns-clause-exactly
returns-clause-exactly c = closure_has_exactly

pub returns-clause-order : goal.returns-clause-order
returns-clause-order c = closure_in_order
