use Rattle.fault_laws.proofs.FaultsWithin.{object_within, family_within, kind_within, class_within, value_within}
use Rattle.fault_laws.proofs.fault_laws.law_expression_faults.Goals as goal

pub returns-clause-object : goal.returns-clause-object
returns-clause-object c = object_within

pub returns-clause-family : goal.returns-clause-family
returns-clause-family c = family_within

pub returns-clause-kind : goal.returns-clause-kind
returns-clause-kind c = kind_within

pub returns-clause-class : goal.returns-clause-class
returns-clause-class c = class_within

pub returns-clause-value : goal.returns-clause-value
returns-clause-value c = value_within
