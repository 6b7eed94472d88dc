use Rattle.verdict_examples.proofs.ShortTermsComputed.{short_arguments, third_order_domain, dependent_product, short_families, one_name_stays_the_same, lambda_is_left}
use Rattle.verdict_examples.proofs.short_terms.left_short.Goals as goal

pub returns-clause-short_arguments : goal.returns-clause-short_arguments
returns-clause-short_arguments c = short_arguments

pub returns-clause-third_order_domain : goal.returns-clause-third_order_domain
returns-clause-third_order_domain c = third_order_domain

pub returns-clause-dependent_product : goal.returns-clause-dependent_product
returns-clause-dependent_product c = dependent_product

pub returns-clause-short_families : goal.returns-clause-short_families
returns-clause-short_families c = short_families

pub returns-clause-one_name_stays_the_same : goal.returns-clause-one_name_stays_the_same
returns-clause-one_name_stays_the_same c = one_name_stays_the_same

pub returns-clause-lambda_is_left : goal.returns-clause-lambda_is_left
returns-clause-lambda_is_left c = lambda_is_left
