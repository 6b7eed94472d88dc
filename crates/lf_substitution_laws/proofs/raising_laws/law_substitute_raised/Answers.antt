use Rattle.lf_meaning.specs.Substitution.{action}
use Rattle.lf_substitution_laws.proofs.Substituting.{substitute_raised}
use Rattle.lf_substitution_laws.proofs.Families.{substitute_raised_family, substitute_raised_kind}
use Rattle.lf_substitution_laws.proofs.raising_laws.law_substitute_raised.Goals as goal

pub returns-clause-object : goal.returns-clause-object
returns-clause-object c = λ k v t n p m. substitute_raised v (action t) k n p m

pub returns-clause-family : goal.returns-clause-family
returns-clause-family c = λ k v t n p a. substitute_raised_family k v t n p a

pub returns-clause-kind : goal.returns-clause-kind
returns-clause-kind c = λ k v t n p b. substitute_raised_kind k v t n p b
