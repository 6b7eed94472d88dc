use Rattle.eta_laws.proofs.LongValues.{agree_means, agree_at_atoms, agree_at_type, constant_agrees, constants_agree}
use Rattle.eta_laws.proofs.long_value_laws.law_agreement.Goals as goal

pub returns-clause-means : goal.returns-clause-means
returns-clause-means c = agree_means

pub returns-clause-atoms : goal.returns-clause-atoms
returns-clause-atoms c = agree_at_atoms

pub returns-clause-types : goal.returns-clause-types
returns-clause-types c = agree_at_type

pub returns-clause-constant : goal.returns-clause-constant
returns-clause-constant c = constant_agrees

pub returns-clause-constants : goal.returns-clause-constants
returns-clause-constants c = constants_agree
