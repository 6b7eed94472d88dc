use Rattle.verdict_examples.proofs.Computed.{view_is_no_theory, name_used_twice, object_is_no_family, atom_is_no_function, other_domain, target_is_unknown, target_is_assigned_twice, ends_do_not_meet, product_is_no_value, family_of_another_kind, family_under_lambda, family_applied, shared_structure_disagrees, shared_structure_agrees}
use Rattle.verdict_examples.proofs.examples.rules.Goals as goal

pub returns-clause-view_is_no_theory : goal.returns-clause-view_is_no_theory
returns-clause-view_is_no_theory c = view_is_no_theory

pub returns-clause-name_used_twice : goal.returns-clause-name_used_twice
returns-clause-name_used_twice c = name_used_twice

pub returns-clause-object_is_no_family : goal.returns-clause-object_is_no_family
returns-clause-object_is_no_family c = object_is_no_family

pub returns-clause-atom_is_no_function : goal.returns-clause-atom_is_no_function
returns-clause-atom_is_no_function c = atom_is_no_function

pub returns-clause-other_domain : goal.returns-clause-other_domain
returns-clause-other_domain c = other_domain

pub returns-clause-target_is_unknown : goal.returns-clause-target_is_unknown
returns-clause-target_is_unknown c = target_is_unknown

pub returns-clause-target_is_assigned_twice : goal.returns-clause-target_is_assigned_twice
returns-clause-target_is_assigned_twice c = target_is_assigned_twice

pub returns-clause-ends_do_not_meet : goal.returns-clause-ends_do_not_meet
returns-clause-ends_do_not_meet c = ends_do_not_meet

pub returns-clause-product_is_no_value : goal.returns-clause-product_is_no_value
returns-clause-product_is_no_value c = product_is_no_value

pub returns-clause-family_of_another_kind : goal.returns-clause-family_of_another_kind
returns-clause-family_of_another_kind c = family_of_another_kind

pub returns-clause-family_under_lambda : goal.returns-clause-family_under_lambda
returns-clause-family_under_lambda c = family_under_lambda

pub returns-clause-family_applied : goal.returns-clause-family_applied
returns-clause-family_applied c = family_applied

pub returns-clause-shared_structure_disagrees : goal.returns-clause-shared_structure_disagrees
returns-clause-shared_structure_disagrees c = shared_structure_disagrees

pub returns-clause-shared_structure_agrees : goal.returns-clause-shared_structure_agrees
returns-clause-shared_structure_agrees c = shared_structure_agrees
