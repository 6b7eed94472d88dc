use Rattle.coherence_laws.proofs.InclusionsReached.{closure_is_of_text, accepted_has_closure, closure_is_reached, reached_are_accepted, not_reached_by_itself}
use Rattle.coherence_laws.proofs.inclusion_laws.law_inclusions.Goals as goal

pub returns-clause-text : goal.returns-clause-text
returns-clause-text c = closure_is_of_text

pub returns-clause-closure : goal.returns-clause-closure
returns-clause-closure c = accepted_has_closure

pub returns-clause-reached : goal.returns-clause-reached
returns-clause-reached c = closure_is_reached

pub returns-clause-accepted : goal.returns-clause-accepted
returns-clause-accepted c = reached_are_accepted

pub returns-clause-itself : goal.returns-clause-itself
returns-clause-itself c = not_reached_by_itself
