use Rattle.std.proofs.Common.{◌+◌, refl}
use Rattle.lf_meaning.specs.Terms.{domain_count}
use Rattle.eta_laws.proofs.LongTerms.{substitute_kept_eta}
use Rattle.eta_laws.proofs.Identity.{substitute_replaced_eta, substitute_eta_variable}
use Rattle.eta_laws.proofs.LongFamilies.{substitute_eta_family}
use Rattle.eta_laws.proofs.long_term_laws.law_substituted_eta.Goals as goal

pub returns-clause-kept : goal.returns-clause-kept
returns-clause-kept c = substitute_kept_eta

pub returns-clause-replaced : goal.returns-clause-replaced
returns-clause-replaced c = substitute_replaced_eta

pub returns-clause-variable : goal.returns-clause-variable
returns-clause-variable c = substitute_eta_variable

pub returns-clause-family : goal.returns-clause-family
returns-clause-family c = λ v u n kind p. substitute_eta_family v u kind n (domain_count kind + n) p refl
