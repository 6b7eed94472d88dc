use Rattle.lf_substitution_laws.proofs.Raising.{raise_by_zero}
use Rattle.lf_substitution_laws.proofs.Families.{raise_family_by_zero, raise_kind_by_zero}
use Rattle.lf_substitution_laws.proofs.raising_laws.law_raise_by_zero.Goals as goal

pub returns-clause-object : goal.returns-clause-object
returns-clause-object c = raise_by_zero

pub returns-clause-family : goal.returns-clause-family
returns-clause-family c = raise_family_by_zero

pub returns-clause-kind : goal.returns-clause-kind
returns-clause-kind c = raise_kind_by_zero
