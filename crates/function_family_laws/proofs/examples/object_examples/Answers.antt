use Rattle.function_family_laws.proofs.Computed.{applied_twice, lambda_over_function, variable_is_long, domains_in_order, unlisted_variable, unlisted_has_no_type, constant_without_image, argument_at_domain, ill_sorted_variable, lambda_at_base}
use Rattle.function_family_laws.proofs.examples.object_examples.Goals as goal

pub returns-clause-applied_twice : goal.returns-clause-applied_twice
returns-clause-applied_twice c = applied_twice

pub returns-clause-lambda_over_function : goal.returns-clause-lambda_over_function
returns-clause-lambda_over_function c = lambda_over_function

pub returns-clause-variable_is_long : goal.returns-clause-variable_is_long
returns-clause-variable_is_long c = variable_is_long

pub returns-clause-domains_in_order : goal.returns-clause-domains_in_order
returns-clause-domains_in_order c = domains_in_order

pub returns-clause-unlisted_variable : goal.returns-clause-unlisted_variable
returns-clause-unlisted_variable c = unlisted_variable

pub returns-clause-unlisted_has_no_type : goal.returns-clause-unlisted_has_no_type
returns-clause-unlisted_has_no_type c = unlisted_has_no_type

pub returns-clause-constant_without_image : goal.returns-clause-constant_without_image
returns-clause-constant_without_image c = constant_without_image

pub returns-clause-argument_at_domain : goal.returns-clause-argument_at_domain
returns-clause-argument_at_domain c = argument_at_domain

pub returns-clause-ill_sorted_variable : goal.returns-clause-ill_sorted_variable
returns-clause-ill_sorted_variable c = ill_sorted_variable

pub returns-clause-lambda_at_base : goal.returns-clause-lambda_at_base
returns-clause-lambda_at_base c = lambda_at_base
