use Rattle.std.proofs.Common.{◌+◌, refl}
use Rattle.lf_substitution_laws.proofs.Families.{raise_below_substitution, raise_below_substitution_family, raise_below_substitution_kind}
use Rattle.lf_substitution_laws.proofs.raising_laws.law_raise_below.Goals as goal

pub returns-clause-object : goal.returns-clause-object
returns-clause-object c = λ k v t n p m low. raise_below_substitution k v t n p (n + k) m low refl

pub returns-clause-family : goal.returns-clause-family
returns-clause-family c = λ k v t n p a low. raise_below_substitution_family k v t n p (n + k) a low refl

pub returns-clause-kind : goal.returns-clause-kind
returns-clause-kind c = λ k v t n p b low. raise_below_substitution_kind k v t n p (n + k) b low refl
