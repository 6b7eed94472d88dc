use Rattle.certificate_laws.proofs.Computed.{object_is_raised, kind_is_not_raised, atomic_is_not_raised, forms_are_raised_apart, context_is_not_raised, object_is_substituted, atomic_is_not_substituted}
use Rattle.certificate_laws.proofs.examples.truth_examples.Goals as goal

pub returns-clause-object_raised : goal.returns-clause-object_raised
returns-clause-object_raised c = object_is_raised

pub returns-clause-kind_raised : goal.returns-clause-kind_raised
returns-clause-kind_raised c = kind_is_not_raised

pub returns-clause-atomic_raised : goal.returns-clause-atomic_raised
returns-clause-atomic_raised c = atomic_is_not_raised

pub returns-clause-forms : goal.returns-clause-forms
returns-clause-forms c = forms_are_raised_apart

pub returns-clause-context : goal.returns-clause-context
returns-clause-context c = context_is_not_raised

pub returns-clause-object_substituted : goal.returns-clause-object_substituted
returns-clause-object_substituted c = object_is_substituted

pub returns-clause-atomic_substituted : goal.returns-clause-atomic_substituted
returns-clause-atomic_substituted c = atomic_is_not_substituted
