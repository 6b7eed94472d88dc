use Rattle.library_laws.proofs.Computed.{diamond_is_shared, diamond_has_six, shared_is_found, two_are_ambiguous, qualified_is_found}
use Rattle.library_laws.proofs.examples.diamond.Goals as goal

pub returns-clause-shared : goal.returns-clause-shared
returns-clause-shared c = diamond_is_shared

pub returns-clause-six : goal.returns-clause-six
returns-clause-six c = diamond_has_six

pub returns-clause-found : goal.returns-clause-found
returns-clause-found c = shared_is_found

pub returns-clause-ambiguous : goal.returns-clause-ambiguous
returns-clause-ambiguous c = two_are_ambiguous

pub returns-clause-qualified : goal.returns-clause-qualified
returns-clause-qualified c = qualified_is_found
