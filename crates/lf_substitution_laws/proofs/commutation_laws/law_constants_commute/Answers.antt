use Rattle.lf_substitution_laws.proofs.Constants.{constants_keep_sort, constants_raise, constants_commute}
use Rattle.lf_substitution_laws.proofs.commutation_laws.law_constants_commute.Goals as goal

pub returns-clause-sort : goal.returns-clause-sort
returns-clause-sort c = constants_keep_sort

pub returns-clause-raise : goal.returns-clause-raise
returns-clause-raise c = constants_raise

pub returns-clause-substitute : goal.returns-clause-substitute
returns-clause-substitute c = constants_commute
