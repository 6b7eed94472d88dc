use Rattle.function_family_laws.proofs.Computed.{family_becomes_function, variable_behind_pi, spine_is_taken, family_argument_at_domain, binders_are_taken, binder_at_function, kind_left_on_spine, kind_left_with_binder, binder_is_left, argument_without_domain, object_leaves_family, family_without_image, no_image_is_at_type}
use Rattle.function_family_laws.proofs.examples.family_examples.Goals as goal

pub returns-clause-family_becomes_function : goal.returns-clause-family_becomes_function
returns-clause-family_becomes_function c = family_becomes_function

pub returns-clause-variable_behind_pi : goal.returns-clause-variable_behind_pi
returns-clause-variable_behind_pi c = variable_behind_pi

pub returns-clause-spine_is_taken : goal.returns-clause-spine_is_taken
returns-clause-spine_is_taken c = spine_is_taken

pub returns-clause-family_argument_at_domain : goal.returns-clause-family_argument_at_domain
returns-clause-family_argument_at_domain c = family_argument_at_domain

pub returns-clause-binders_are_taken : goal.returns-clause-binders_are_taken
returns-clause-binders_are_taken c = binders_are_taken

pub returns-clause-binder_at_function : goal.returns-clause-binder_at_function
returns-clause-binder_at_function c = binder_at_function

pub returns-clause-kind_left_on_spine : goal.returns-clause-kind_left_on_spine
returns-clause-kind_left_on_spine c = kind_left_on_spine

pub returns-clause-kind_left_with_binder : goal.returns-clause-kind_left_with_binder
returns-clause-kind_left_with_binder c = kind_left_with_binder

pub returns-clause-binder_is_left : goal.returns-clause-binder_is_left
returns-clause-binder_is_left c = binder_is_left

pub returns-clause-argument_without_domain : goal.returns-clause-argument_without_domain
returns-clause-argument_without_domain c = argument_without_domain

pub returns-clause-object_leaves_family : goal.returns-clause-object_leaves_family
returns-clause-object_leaves_family c = object_leaves_family

pub returns-clause-family_without_image : goal.returns-clause-family_without_image
returns-clause-family_without_image c = family_without_image

pub returns-clause-no_image_is_at_type : goal.returns-clause-no_image_is_at_type
returns-clause-no_image_is_at_type c = no_image_is_at_type
