use Rattle.printing_laws.proofs.Computed.{bodies_are_counted, domains_are_parenthesized, family_value_is_printed, lambda_is_parenthesized}
use Rattle.printing_laws.proofs.examples.terms.Goals as goal

pub returns-clause-bodies : goal.returns-clause-bodies
returns-clause-bodies c = bodies_are_counted

pub returns-clause-domains : goal.returns-clause-domains
returns-clause-domains c = domains_are_parenthesized

pub returns-clause-family_value : goal.returns-clause-family_value
returns-clause-family_value c = family_value_is_printed

pub returns-clause-lambda : goal.returns-clause-lambda
returns-clause-lambda c = lambda_is_parenthesized
