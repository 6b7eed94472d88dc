use Rattle.function_family_laws.proofs.Computed.{same_is_long, term_is_itself, same_has_type, term_has_type, family_leaves_object, kind_leaves_object}
use Rattle.function_family_laws.proofs.examples.constant_examples.Goals as goal

pub returns-clause-same_is_long : goal.returns-clause-same_is_long
returns-clause-same_is_long c = same_is_long

pub returns-clause-term_is_itself : goal.returns-clause-term_is_itself
returns-clause-term_is_itself c = term_is_itself

pub returns-clause-same_has_type : goal.returns-clause-same_has_type
returns-clause-same_has_type c = same_has_type

pub returns-clause-term_has_type : goal.returns-clause-term_has_type
returns-clause-term_has_type c = term_has_type

pub returns-clause-family_leaves_object : goal.returns-clause-family_leaves_object
returns-clause-family_leaves_object c = family_leaves_object

pub returns-clause-kind_leaves_object : goal.returns-clause-kind_leaves_object
returns-clause-kind_leaves_object c = kind_leaves_object
