use Rattle.eta_laws.proofs.LongValues.{long_value_fits, long_value_is_long}
use Rattle.eta_laws.proofs.long_value_laws.law_long_values.Goals as goal

pub returns-clause-fits : goal.returns-clause-fits
returns-clause-fits c = long_value_fits

pub returns-clause-again : goal.returns-clause-again
returns-clause-again c = long_value_is_long
