use Rattle.constant_laws.proofs.Expanding.{standing_object_holds, standing_head_holds, taken_arguments_hold, standing_family_holds, standing_kind_holds, standing_class_holds, standing_family_value_holds, standing_value_holds}
use Rattle.constant_laws.proofs.expansion_laws.law_expansion_holds.Goals as goal

pub returns-clause-object : goal.returns-clause-object
returns-clause-object c = standing_object_holds

pub returns-clause-head : goal.returns-clause-head
returns-clause-head c = standing_head_holds

pub returns-clause-arguments : goal.returns-clause-arguments
returns-clause-arguments c = taken_arguments_hold

pub returns-clause-family : goal.returns-clause-family
returns-clause-family c = standing_family_holds

pub returns-clause-kind : goal.returns-clause-kind
returns-clause-kind c = standing_kind_holds

pub returns-clause-class : goal.returns-clause-class
returns-clause-class c = standing_class_holds

pub returns-clause-family_value : goal.returns-clause-family_value
returns-clause-family_value c = standing_family_value_holds

pub returns-clause-value : goal.returns-clause-value
returns-clause-value c = standing_value_holds
