use Rattle.lf_term_laws.proofs.Spines.{reduce_atomic, reduce_lambda_at_base, reduce_appended}
use Rattle.lf_term_laws.proofs.application_laws.law_reduce.Goals as goal

pub returns-clause-atomic : goal.returns-clause-atomic
returns-clause-atomic c = reduce_atomic

pub returns-clause-lambda_at_base : goal.returns-clause-lambda_at_base
returns-clause-lambda_at_base c = reduce_lambda_at_base

pub returns-clause-appended : goal.returns-clause-appended
returns-clause-appended c = reduce_appended
