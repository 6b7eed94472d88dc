use Rattle.elaborate_typing.proofs.Expanding.{standing_object_checks, standing_head_is_typed, taken_arguments_are_typed, standing_family_value_is_family, standing_family_is_family, standing_kind_is_kind, standing_class_is_class, standing_value_fits}
use Rattle.elaborate_typing.proofs.typing_laws.law_expansion_typing.Goals as goal

pub returns-clause-object : goal.returns-clause-object
returns-clause-object c = standing_object_checks

pub returns-clause-head : goal.returns-clause-head
returns-clause-head c = standing_head_is_typed

pub returns-clause-arguments : goal.returns-clause-arguments
returns-clause-arguments c = taken_arguments_are_typed

pub returns-clause-family : goal.returns-clause-family
returns-clause-family c = standing_family_is_family

pub returns-clause-kind : goal.returns-clause-kind
returns-clause-kind c = standing_kind_is_kind

pub returns-clause-class : goal.returns-clause-class
returns-clause-class c = standing_class_is_class

pub returns-clause-family_value : goal.returns-clause-family_value
returns-clause-family_value c = standing_family_value_is_family

pub returns-clause-value : goal.returns-clause-value
returns-clause-value c = standing_value_fits
