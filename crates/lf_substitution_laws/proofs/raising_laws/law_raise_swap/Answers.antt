use Rattle.std.proofs.Common.{◌+◌, refl}
use Rattle.lf_substitution_laws.proofs.Raising.{raise_swap}
use Rattle.lf_substitution_laws.proofs.Families.{raise_family_swap, raise_kind_swap}
use Rattle.lf_substitution_laws.proofs.raising_laws.law_raise_swap.Goals as goal

pub returns-clause-object : goal.returns-clause-object
returns-clause-object c = λ k l n p m low. raise_swap k l n p (p + k) m low refl

pub returns-clause-family : goal.returns-clause-family
returns-clause-family c = λ k l n p a low. raise_family_swap k l n p (p + k) a low refl

pub returns-clause-kind : goal.returns-clause-kind
returns-clause-kind c = λ k l n p b low. raise_kind_swap k l n p (p + k) b low refl
