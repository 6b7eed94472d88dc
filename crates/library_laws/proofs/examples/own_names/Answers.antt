use Rattle.library_laws.proofs.Computed.{own_is_found, own_is_not_qualified, binder_hides}
use Rattle.library_laws.proofs.examples.own_names.Goals as goal

pub returns-clause-own : goal.returns-clause-own
returns-clause-own c = own_is_found

pub returns-clause-not_qualified : goal.returns-clause-not_qualified
returns-clause-not_qualified c = own_is_not_qualified

pub returns-clause-hidden : goal.returns-clause-hidden
returns-clause-hidden c = binder_hides
