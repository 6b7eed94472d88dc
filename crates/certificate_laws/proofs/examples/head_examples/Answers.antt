use Rattle.certificate_laws.proofs.Computed.{head_goes_at_codomain, head_goes_at_no_other, head_goes_with_type, head_stays_without_type, lambda_does_not_stay}
use Rattle.certificate_laws.proofs.examples.head_examples.Goals as goal

pub returns-clause-codomain : goal.returns-clause-codomain
returns-clause-codomain c = head_goes_at_codomain

pub returns-clause-other : goal.returns-clause-other
returns-clause-other c = head_goes_at_no_other

pub returns-clause-goes : goal.returns-clause-goes
returns-clause-goes c = head_goes_with_type

pub returns-clause-stays : goal.returns-clause-stays
returns-clause-stays c = head_stays_without_type

pub returns-clause-lambda : goal.returns-clause-lambda
returns-clause-lambda c = lambda_does_not_stay
