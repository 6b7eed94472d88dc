use Rattle.eta_laws.proofs.Identity.{variable_is_identity}
use Rattle.eta_laws.proofs.LongFamilies.{identity_family, identity_kind}
use Rattle.eta_laws.proofs.long_term_laws.law_eta_of_variable.Goals as goal

pub returns-clause-object : goal.returns-clause-object
returns-clause-object c = λ sorts after before s t m h. variable_is_identity sorts s after before t m h

pub returns-clause-family : goal.returns-clause-family
returns-clause-family c = λ sorts after before s a h. identity_family sorts s before after a h

pub returns-clause-kind : goal.returns-clause-kind
returns-clause-kind c = λ sorts after before s k h. identity_kind sorts s before after k h
