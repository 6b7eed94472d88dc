use Rattle.print_laws.proofs.Printed.{printed_modules, printed_expressions}
use Rattle.print_laws.proofs.PrintedJudged.{printed_judgements, printed_within, judged_expressions}
use Rattle.print_laws.proofs.laws.law_printed.Goals as goal

pub returns-clause-modules : goal.returns-clause-modules
returns-clause-modules c = printed_modules

pub returns-clause-expressions : goal.returns-clause-expressions
returns-clause-expressions c = printed_expressions

pub returns-clause-judgements : goal.returns-clause-judgements
returns-clause-judgements c = printed_judgements

pub returns-clause-judged : goal.returns-clause-judged
returns-clause-judged c = judged_expressions

pub returns-clause-within : goal.returns-clause-within
returns-clause-within c = printed_within
