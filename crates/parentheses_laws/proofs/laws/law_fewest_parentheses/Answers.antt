use Rattle.parentheses_laws.proofs.Fewest.{fewest_in_modules, fewest_in_expressions, fewest_in_judgements}
use Rattle.parentheses_laws.proofs.laws.law_fewest_parentheses.Goals as goal

pub returns-clause-modules : goal.returns-clause-modules
returns-clause-modules c = fewest_in_modules

pub returns-clause-expressions : goal.returns-clause-expressions
returns-clause-expressions c = fewest_in_expressions

pub returns-clause-judgements : goal.returns-clause-judgements
returns-clause-judgements c = fewest_in_judgements
