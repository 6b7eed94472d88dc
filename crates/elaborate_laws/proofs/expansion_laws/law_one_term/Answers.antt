use Rattle.elaborate_laws.proofs.Standing.{one_object, one_head, one_head_taken, one_family, one_kind, one_class, one_family_value, one_value}
use Rattle.elaborate_laws.proofs.expansion_laws.law_one_term.Goals as goal

pub returns-clause-object : goal.returns-clause-object
returns-clause-object c = one_object

pub returns-clause-head : goal.returns-clause-head
returns-clause-head c = one_head

pub returns-clause-arguments : goal.returns-clause-arguments
returns-clause-arguments c = one_head_taken

pub returns-clause-family : goal.returns-clause-family
returns-clause-family c = one_family

pub returns-clause-kind : goal.returns-clause-kind
returns-clause-kind c = one_kind

pub returns-clause-class : goal.returns-clause-class
returns-clause-class c = one_class

pub returns-clause-family_value : goal.returns-clause-family_value
returns-clause-family_value c = one_family_value

pub returns-clause-value : goal.returns-clause-value
returns-clause-value c = one_value
