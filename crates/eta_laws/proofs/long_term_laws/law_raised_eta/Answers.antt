use Rattle.std.proofs.Common.{◌+◌, refl}
use Rattle.lf_meaning.specs.Terms.{domain_count}
use Rattle.eta_laws.proofs.LongTerms.{raise_eta}
use Rattle.eta_laws.proofs.LongFamilies.{raise_eta_family}
use Rattle.eta_laws.proofs.long_term_laws.law_raised_eta.Goals as goal

pub returns-clause-object : goal.returns-clause-object
returns-clause-object c = raise_eta

pub returns-clause-family : goal.returns-clause-family
returns-clause-family c = λ k n kind p. raise_eta_family k kind n (domain_count kind + n) p refl
