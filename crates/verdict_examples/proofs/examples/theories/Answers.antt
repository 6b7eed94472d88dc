use Rattle.verdict_examples.proofs.Computed.{natural_numbers, misspelled_name, eta_short_argument, eta_long_argument}
use Rattle.verdict_examples.proofs.examples.theories.Goals as goal

pub returns-clause-natural_numbers : goal.returns-clause-natural_numbers
returns-clause-natural_numbers c = natural_numbers

pub returns-clause-misspelled_name : goal.returns-clause-misspelled_name
returns-clause-misspelled_name c = misspelled_name

pub returns-clause-eta_short_argument : goal.returns-clause-eta_short_argument
returns-clause-eta_short_argument c = eta_short_argument

pub returns-clause-eta_long_argument : goal.returns-clause-eta_long_argument
returns-clause-eta_long_argument c = eta_long_argument
