use Rattle.verdict_examples.proofs.TermsComputed.{cycle_before_wrong_name, arguments_before_the_classifier, unknown_name_at_a_product, value_of_another_level, lambda_as_a_head, lambda_at_an_atomic_family_before_its_domain, order_in_a_row_of_back_arrows, application_at_a_kind_with_a_domain, lambda_at_type, level_before_arguments, wrong_name_before_declarations, second_inclusion, annotation_before_the_body}
use Rattle.verdict_examples.proofs.orders.declarations.Goals as goal

pub returns-clause-cycle_before_wrong_name : goal.returns-clause-cycle_before_wrong_name
returns-clause-cycle_before_wrong_name c = cycle_before_wrong_name

pub returns-clause-arguments_before_the_classifier : goal.returns-clause-arguments_before_the_classifier
returns-clause-arguments_before_the_classifier c = arguments_before_the_classifier

pub returns-clause-unknown_name_at_a_product : goal.returns-clause-unknown_name_at_a_product
returns-clause-unknown_name_at_a_product c = unknown_name_at_a_product

pub returns-clause-value_of_another_level : goal.returns-clause-value_of_another_level
returns-clause-value_of_another_level c = value_of_another_level

pub returns-clause-lambda_as_a_head : goal.returns-clause-lambda_as_a_head
returns-clause-lambda_as_a_head c = lambda_as_a_head

pub returns-clause-lambda_at_an_atomic_family_before_its_domain : goal.returns-clause-lambda_at_an_atomic_family_before_its_domain
returns-clause-lambda_at_an_atomic_family_before_its_domain c = lambda_at_an_atomic_family_before_its_domain

pub returns-clause-order_in_a_row_of_back_arrows : goal.returns-clause-order_in_a_row_of_back_arrows
returns-clause-order_in_a_row_of_back_arrows c = order_in_a_row_of_back_arrows

pub returns-clause-application_at_a_kind_with_a_domain : goal.returns-clause-application_at_a_kind_with_a_domain
returns-clause-application_at_a_kind_with_a_domain c = application_at_a_kind_with_a_domain

pub returns-clause-lambda_at_type : goal.returns-clause-lambda_at_type
returns-clause-lambda_at_type c = lambda_at_type

pub returns-clause-level_before_arguments : goal.returns-clause-level_before_arguments
returns-clause-level_before_arguments c = level_before_arguments

pub returns-clause-wrong_name_before_declarations : goal.returns-clause-wrong_name_before_declarations
returns-clause-wrong_name_before_declarations c = wrong_name_before_declarations

pub returns-clause-second_inclusion : goal.returns-clause-second_inclusion
returns-clause-second_inclusion c = second_inclusion

pub returns-clause-annotation_before_the_body : goal.returns-clause-annotation_before_the_body
returns-clause-annotation_before_the_body c = annotation_before_the_body
