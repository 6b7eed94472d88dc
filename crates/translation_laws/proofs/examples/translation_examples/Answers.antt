use Rattle.translation_laws.proofs.Computed.{applied_twice, same_becomes_same, term_becomes_term, term_becomes_same, binders_are_taken_from_the_outside}
use Rattle.translation_laws.proofs.examples.translation_examples.Goals as goal

pub returns-clause-twice : goal.returns-clause-twice
returns-clause-twice c = applied_twice

pub returns-clause-same : goal.returns-clause-same
returns-clause-same c = same_becomes_same

pub returns-clause-term : goal.returns-clause-term
returns-clause-term c = term_becomes_term

pub returns-clause-bare : goal.returns-clause-bare
returns-clause-bare c = term_becomes_same

pub returns-clause-binders : goal.returns-clause-binders
returns-clause-binders c = binders_are_taken_from_the_outside
