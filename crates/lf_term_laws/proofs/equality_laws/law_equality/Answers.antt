use Rattle.lf_term_laws.proofs.Equality.{same_constant_decides, same_object_decides, same_atomic_decides, same_family_decides, same_kind_decides, same_class_decides, same_value_decides}
use Rattle.lf_term_laws.proofs.equality_laws.law_equality.Goals as goal

pub returns-clause-constant : goal.returns-clause-constant
returns-clause-constant c = same_constant_decides

pub returns-clause-object : goal.returns-clause-object
returns-clause-object c = same_object_decides

pub returns-clause-atomic : goal.returns-clause-atomic
returns-clause-atomic c = same_atomic_decides

pub returns-clause-family : goal.returns-clause-family
returns-clause-family c = same_family_decides

pub returns-clause-kind : goal.returns-clause-kind
returns-clause-kind c = same_kind_decides

pub returns-clause-class : goal.returns-clause-class
returns-clause-class c = same_class_decides

pub returns-clause-value : goal.returns-clause-value
returns-clause-value c = same_value_decides
