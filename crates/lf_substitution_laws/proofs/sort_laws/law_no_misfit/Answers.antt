use Rattle.lf_substitution_laws.proofs.Misfitting.{no_misfit, no_misfit_in_family}
use Rattle.lf_substitution_laws.proofs.sort_laws.law_no_misfit.Goals as goal

pub returns-clause-object : goal.returns-clause-object
returns-clause-object c = λ sorts after before v m s t. no_misfit s sorts after before v m t

pub returns-clause-family : goal.returns-clause-family
returns-clause-family c = λ sorts after before v s a h. no_misfit_in_family sorts before v s h after a
