use Rattle.lf_substitution_laws.proofs.Raising.{raise_twice}
use Rattle.lf_substitution_laws.proofs.Families.{raise_family_twice, raise_kind_twice}
use Rattle.lf_substitution_laws.proofs.raising_laws.law_raise_twice.Goals as goal

pub returns-clause-object : goal.returns-clause-object
returns-clause-object c = raise_twice

pub returns-clause-family : goal.returns-clause-family
returns-clause-family c = raise_family_twice

pub returns-clause-kind : goal.returns-clause-kind
returns-clause-kind c = raise_kind_twice
