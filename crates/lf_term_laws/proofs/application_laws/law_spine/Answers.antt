use Rattle.lf_term_laws.proofs.Spines.{replace_applied, substitute_applied_at, substitute_applied_below, substitute_applied_above, substitute_applied_constant, raise_applied, map_applied}
use Rattle.lf_term_laws.proofs.application_laws.law_spine.Goals as goal

pub returns-clause-replace : goal.returns-clause-replace
returns-clause-replace c = replace_applied

pub returns-clause-at : goal.returns-clause-at
returns-clause-at c = substitute_applied_at

pub returns-clause-below : goal.returns-clause-below
returns-clause-below c = substitute_applied_below

pub returns-clause-above : goal.returns-clause-above
returns-clause-above c = substitute_applied_above

pub returns-clause-constant : goal.returns-clause-constant
returns-clause-constant c = substitute_applied_constant

pub returns-clause-raise : goal.returns-clause-raise
returns-clause-raise c = raise_applied

pub returns-clause-family : goal.returns-clause-family
returns-clause-family c = map_applied
