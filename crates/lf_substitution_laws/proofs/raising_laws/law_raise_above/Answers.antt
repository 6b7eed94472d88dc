use Rattle.std.proofs.Common.{◌+◌, refl}
use Rattle.lf_meaning.specs.Substitution.{action}
use Rattle.lf_substitution_laws.proofs.Substituting.{raise_above_substitution, natural_action}
use Rattle.lf_substitution_laws.proofs.Families.{raise_above_substitution_family, raise_above_substitution_kind}
use Rattle.lf_substitution_laws.proofs.raising_laws.law_raise_above.Goals as goal

pub returns-clause-object : goal.returns-clause-object
returns-clause-object c = λ k c v t n m. raise_above_substitution k c v (action t) (natural_action t) n (n + c) m refl

pub returns-clause-family : goal.returns-clause-family
returns-clause-family c = λ k c v t n a. raise_above_substitution_family k c v t n (n + c) a refl

pub returns-clause-kind : goal.returns-clause-kind
returns-clause-kind c = λ k c v t n b. raise_above_substitution_kind k c v t n (n + c) b refl
